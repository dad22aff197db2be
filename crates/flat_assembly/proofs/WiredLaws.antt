-- Where no terminal of a bidirectional switch is a wired net, none of its ends is.
use Rattle.std.proofs.Common.{◌≡◌, ℕ, Bool, true, false, List, [], ◌∷◌, map, if◌then◌else◌, refl}
use Rattle.std.specs.List.{All, AllByRecursion, filter}
use Rattle.level_range.specs.declared.range.Kind.{Kind}
use Rattle.level_range.specs.declared.range.Kind.TheVariants.{Plain, And, Or}
use Rattle.v_tree.specs.declared.locations.Location.{Location}
use Rattle.udp_table.specs.Primitive.{Primitive}
use Rattle.flat_net.specs.Islands.{combination_kind}
use Rattle.net_islands.specs.declared.parts.NetClass.{NetClass}
use Rattle.netlist_plan.specs.Flattening.{Hierarchy, flattening}
use Rattle.flattening_laws.specs.SoundPlans.{IsSoundPlan}
use Rattle.flattening_laws.proofs.Apart.{All_from_each}
use Rattle.flattening_laws.proofs.EndLaws.{flattening-ends}
use Rattle.flat_assembly.specs.Assembly.{HavePlainEnds, class_at}
use Rattle.flat_assembly.specs.Wired.{is_wired, is_wired_kind, wired_places}

plain_kind : (kind : Kind) → is_wired_kind kind ≡ false → kind ≡ Plain
plain_kind Plain e = refl
plain_kind And e = absurd (let no : true ≡ false = e in cc)
plain_kind Or e = absurd (let no : true ≡ false = e in cc)

none_wired : (classes : List NetClass) (terminals : List (ℕ × Location)) → wired_places classes terminals ≡ []
    → AllByRecursion (λ (t : ℕ × Location). combination_kind (class_at classes t.0).kind ≡ Plain) terminals
none_wired classes [] e = tt
none_wired classes (t ∷ terminals) e = by_test (is_wired (class_at classes t.0)) refl e (none_wired classes terminals)
  where
    by_test : (b : Bool) → is_wired (class_at classes t.0) ≡ b
        → map (λ (u : ℕ × Location). u.1) (if b then t ∷ filter (λ (u : ℕ × Location). is_wired (class_at classes u.0)) terminals else filter (λ (u : ℕ × Location). is_wired (class_at classes u.0)) terminals) ≡ []
        → (wired_places classes terminals ≡ [] → AllByRecursion (λ (u : ℕ × Location). combination_kind (class_at classes u.0).kind ≡ Plain) terminals)
        → AllByRecursion (λ (u : ℕ × Location). combination_kind (class_at classes u.0).kind ≡ Plain) (t ∷ terminals)
    by_test true is e rest = absurd (let no : t.1 ∷ map (λ (u : ℕ × Location). u.1) (filter (λ (u : ℕ × Location). is_wired (class_at classes u.0)) terminals) ≡ [] = e in cc)
    by_test false is e rest = (plain_kind (combination_kind (class_at classes t.0).kind) is, rest e)

pub plain-ends : (udps : List Primitive) (h : Hierarchy) → All (IsSoundPlan udps) h.plans → (classes : List NetClass) (top : ℕ)
    → wired_places classes (flattening h top).terminals ≡ [] → HavePlainEnds classes (flattening h top).elements
plain-ends udps h plans classes top none =
    flattening-ends udps h plans (λ net. combination_kind (class_at classes net).kind ≡ Plain) top
    (All_from_each (λ (t : ℕ × Location). combination_kind (class_at classes t.0).kind ≡ Plain) (flattening h top).terminals (none_wired classes (flattening h top).terminals none))
