-- For the code alone: tests that answer whether the sentences of soundness hold.
use Rattle.std.specs.Prelude.{ℕ, ◌+◌, ◌^◌, Bool, true, false, not, ◌&&◌, ◌||◌, ◌==◌, nat_lt, nat_le, List, [], ◌∷◌, ◌++◌, length, map, Option, Some, None, slice_get, if◌then◌else◌}
use Rattle.std.specs.Option.{is_some}
use Rattle.std.specs.List.{list_all, list_any, enumerate_from, zip}
use Rattle.logic_tables.specs.declared.kinds.FoldKind.{FoldKind}
use Rattle.logic_tables.specs.declared.kinds.FoldKind.TheVariants.{And, Nand, Or, Nor, Xor, Xnor, Buf, Not}
use Rattle.level_range.specs.declared.range.Kind.{Kind}
use Rattle.level_range.specs.declared.range.Kind.TheVariants.{Plain, And as AndKind, Or as OrKind}
use Rattle.net_settle.specs.declared.shape.Link.{Link}
use Rattle.flat_net.specs.declared.kinds.NetKind.{NetKind}
use Rattle.flat_net.specs.declared.kinds.NetKind.TheVariants.{Wire, And as AndNet, Or as OrNet, Tri0, Tri1, Supply0, Supply1, Trireg}
use Rattle.flat_net.specs.declared.parts.NetPart.{NetPart}
use Rattle.flat_net.specs.declared.parts.Drive.{Drive}
use Rattle.flat_net.specs.declared.parts.Find.{Find}
use Rattle.flat_net.specs.declared.parts.Island.{Island}
use Rattle.flat_net.specs.declared.parts.Parts.{Parts}
use Rattle.flat_net.specs.Islands.{combination_kind, drive_pins, link_elements}
use Rattle.flat_net.specs.Soundness.{greatest_count}
use Rattle.name_table.specs.Names.{is_distinct}
use Rattle.udp_table.specs.Primitive.{Primitive}
use Rattle.flat_net.specs.declared.kinds.ElementKind.{ElementKind}
use Rattle.flat_net.specs.declared.kinds.ElementKind.TheVariants.{Fold, Enable, Mos, Udp, Copy, Constant, Pull, Tran, Tranif}
use Rattle.flat_net.specs.declared.parts.Element.{Element}
use Rattle.flat_net.specs.Elements.{joins_ends}

abbrev pub same_kind : Kind → Kind → Bool
same_kind Plain Plain = true
same_kind AndKind AndKind = true
same_kind OrKind OrKind = true
same_kind _ _ = false

abbrev pub is_plain : Kind → Bool
is_plain kind = same_kind kind Plain

-- two output pins are the same
abbrev pub same_pin : ℕ × ℕ → ℕ × ℕ → Bool
same_pin a b = (a.0 == b.0) && (a.1 == b.1)

-- the value is there and passes the test
abbrev pub some_and : {X : Type 0} → (X → Bool) → Option X → Bool
some_and test None = false
some_and test (Some x) = test x

-- each element passes the test with its number
abbrev pub all_at : {X : Type 0} → (ℕ → X → Bool) → List X → Bool
all_at test xs = list_all (λ p. test p.0 p.1) (enumerate_from 0 xs)

-- the elements of two lists pass the test place by place, and the lists are as long
abbrev pub all_zip : {X Y : Type 0} → (X → Y → Bool) → List X → List Y → Bool
all_zip test xs ys = (length xs == length ys) && list_all (λ p. test p.0 p.1) (zip xs ys)

abbrev pub is_fold : FoldKind → ℕ → ℕ → Bool
is_fold And outs ins = (outs == 1) && nat_le 1 ins
is_fold Nand outs ins = (outs == 1) && nat_le 1 ins
is_fold Or outs ins = (outs == 1) && nat_le 1 ins
is_fold Nor outs ins = (outs == 1) && nat_le 1 ins
is_fold Xor outs ins = (outs == 1) && nat_le 1 ins
is_fold Xnor outs ins = (outs == 1) && nat_le 1 ins
is_fold Buf outs ins = nat_le 1 outs && (ins == 1)
is_fold Not outs ins = nat_le 1 outs && (ins == 1)

abbrev pub has_pins : List Primitive → ElementKind → ℕ → ℕ → Bool
has_pins udps (Fold kind) outs ins = is_fold kind outs ins
has_pins udps (Enable kind) outs ins = (outs == 1) && (ins == 2)
has_pins udps (Mos on_one resistive) outs ins = (outs == 1) && (ins == 2)
has_pins udps (Udp number) outs ins = (outs == 1) && some_and (λ (udp : Primitive). udp.inputs == ins) (slice_get udps number)
has_pins udps Copy outs ins = (outs == 1) && (ins == 1)
has_pins udps (Constant value) outs ins = (outs == 1) && (ins == 0)
has_pins udps (Pull value) outs ins = (outs == 1) && (ins == 0)
has_pins udps Tran outs ins = (outs == 0) && (ins == 0)
has_pins udps (Tranif on_one) outs ins = (outs == 0) && (ins == 1)

-- all nets are below the count
abbrev pub are_below : ℕ → List ℕ → Bool
are_below count nets = list_all (λ net. nat_lt net count) nets

-- there are ends where the element joins its ends, and they are below the count
abbrev pub are_ends : ℕ → Bool → Option (ℕ × ℕ) → Bool
are_ends count joins None = not joins
are_ends count joins (Some ends) = joins && (nat_lt ends.0 count && nat_lt ends.1 count)

abbrev pub is_element : ℕ → List Primitive → Element → Bool
is_element count udps e =
    nat_le e.s0 7 && nat_le e.s1 7 && has_pins udps e.kind (length e.outs) (length e.ins)
    && are_ends count (joins_ends e.kind) e.ends && nat_lt ((if is_some e.ends then 2 else 0) + length e.outs + length e.ins) (2 ^ 32)
    && are_below count e.outs && are_below count e.ins

abbrev pub has_charge : NetKind → ℕ → Bool
has_charge Trireg level = (level == 1) || (level == 2) || (level == 4)
has_charge Wire level = level == 0
has_charge AndNet level = level == 0
has_charge OrNet level = level == 0
has_charge Tri0 level = level == 0
has_charge Tri1 level = level == 0
has_charge Supply0 level = level == 0
has_charge Supply1 level = level == 0

-- the k-th number is this one
abbrev pub is_at : List ℕ → ℕ → ℕ → Bool
is_at numbers k number = some_and (λ n. n == number) (slice_get numbers k)

-- a plain net, or an island of one net without links
abbrev pub is_alone : NetKind → Island → Bool
is_alone kind island = is_plain (combination_kind kind) || ((length island.nets == 1) && (length island.links == 0))

abbrev pub is_net : List Island → ℕ → NetPart → Bool
is_net islands number part =
    has_charge part.kind part.charge
    && some_and (λ island. is_at island.nets part.place number && is_alone part.kind island) (slice_get islands part.island)

-- the net stands in the island of this number at this place
abbrev pub stands_at : List NetPart → ℕ → ℕ → ℕ → Bool
stands_at nets number place net = some_and (λ part. (part.island == number) && (part.place == place)) (slice_get nets net)

abbrev pub is_drive : List Element → List ℕ → Drive → Bool
is_drive elements nets drive =
    some_and (λ e. some_and (λ net. is_at nets drive.place net) (slice_get e.outs drive.pin)) (slice_get elements drive.element)

abbrev pub is_link : List Element → List ℕ → ℕ → Link → Bool
is_link elements nets element link =
    some_and (λ e. some_and (λ ends. is_at nets link.a ends.0 && is_at nets link.b ends.1) e.ends) (slice_get elements element)

abbrev pub has_kind : List NetPart → ℕ → Kind → Bool
has_kind nets net kind = some_and (λ part. same_kind kind (combination_kind part.kind)) (slice_get nets net)

abbrev pub has_level : List NetPart → ℕ → ℕ → Bool
has_level nets net level = some_and (λ part. level == part.charge) (slice_get nets net)

abbrev pub is_island : List NetPart → List Element → ℕ → Island → Bool
is_island nets elements number island =
    nat_lt 0 (length island.nets)
    && all_at (λ place net. stands_at nets number place net) island.nets
    && list_all (is_drive elements island.nets) island.drives
    && all_zip (is_link elements island.nets) island.links island.shape.links
    && all_zip (has_kind nets) island.nets island.shape.kinds
    && all_zip (has_level nets) island.nets island.shape.charge

-- no element is equal to a key or to one before it
abbrev pub are_new : {X : Type 0} → (X → X → Bool) → List X → List X → Bool
are_new same keys [] = true
are_new same keys (x ∷ xs) = not (list_any (same x) keys) && are_new same (keys ++ x ∷ []) xs

-- the keys have each output pin of the elements
abbrev pub have_drives : List (ℕ × ℕ) → List Element → Bool
have_drives pins elements = all_at (λ element (e : Element). all_at (λ pin (net : ℕ). list_any (same_pin (element, pin)) pins) e.outs) elements

-- the keys have each bidirectional switch
abbrev pub have_links : List ℕ → List Element → Bool
have_links links elements = all_at (λ element (e : Element). not (is_some e.ends) || list_any (λ link. element == link) links) elements

-- the first net of the island has the same least net
abbrev pub joins_first : Island → List ℕ → ℕ → Bool
joins_first island least number =
    some_and (λ first. some_and (λ other. is_at least number other) (slice_get least first)) (slice_get island.nets 0)

-- the net stands in one island with the least net that it is joined with
abbrev pub stands_with_least : List NetPart → List ℕ → ℕ → NetPart → Bool
stands_with_least nets least number part =
    some_and (λ other. some_and (λ (near : NetPart). near.island == part.island) (slice_get nets other)) (slice_get least number)

abbrev pub is_grouped : List NetPart → List Island → List ℕ → ℕ → NetPart → Bool
is_grouped nets islands least number part =
    some_and (λ (island : Island). joins_first island least number && stands_with_least nets least number part) (slice_get islands part.island)

abbrev pub is_ascii : List ℕ → Bool
is_ascii name = list_all (λ byte. nat_lt byte 128) name

abbrev pub is_find : ℕ → Find → Bool
is_find count found = nat_lt 0 (length found.nets) && are_below count found.nets

abbrev pub are_cells : Parts → Bool
are_cells parts =
    nat_le (length parts.nets) greatest_count && nat_le (length parts.elements) greatest_count
    && list_all (is_element (length parts.nets) parts.udps) parts.elements
    && all_at (is_net parts.islands) parts.nets
    && all_at (is_island parts.nets parts.elements) parts.islands

abbrev pub are_driven : Parts → Bool
are_driven parts = are_new same_pin [] (drive_pins parts.islands) && have_drives (drive_pins parts.islands) parts.elements

abbrev pub are_linked : Parts → Bool
are_linked parts = are_new (λ a b. a == b) [] (link_elements parts.islands) && have_links (link_elements parts.islands) parts.elements

abbrev pub are_distinct_nets : ℕ → List ℕ → Bool
are_distinct_nets count nets = are_below count nets && are_new (λ a b. a == b) [] nets

-- so many things with ASCII names, no two the same
abbrev pub are_names : {X : Type 0} → (X → List ℕ) → ℕ → List X → Bool
are_names name count xs = (length xs == count) && list_all (λ x. is_ascii (name x)) xs && is_distinct (map name xs)

abbrev pub are_named : Parts → Bool
are_named parts =
    are_names (λ name. name) (length parts.nets) parts.net_names
    && are_names (λ name. name) (length parts.elements) parts.element_names
    && list_all (is_find (length parts.nets)) parts.finds
    && are_names (λ (found : Find). found.name) (length parts.finds) parts.finds

abbrev pub are_complete : Parts → Bool
are_complete parts =
    are_driven parts && are_linked parts && are_distinct_nets (length parts.nets) parts.inputs
    && are_distinct_nets (length parts.nets) parts.outputs && are_named parts
