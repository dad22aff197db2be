-- The islands of a netlist: their nets, what drives them, and the switches that join them.
use Rattle.std.specs.Prelude.{ℕ, ◌<◌, ◌≤◌, ◌^◌, Bool, false, List, [], length, map, slice_index, slice_index_or}
use Rattle.std.specs.Option.{option_map}
use Rattle.std.specs.List.{All, flat_map, filter_map, enumerate_from, range_with_len, zip}
use Rattle.net_settle.specs.declared.shape.Link.{Link}
use Rattle.net_settle.specs.declared.shape.Shape.{Shape}
use Rattle.flat_net.specs.declared.parts.Element.{Element}
use Rattle.flat_net.specs.declared.parts.Drive.{Drive}
use Rattle.flat_net.specs.declared.parts.Island.{Island}
use Rattle.flat_net.specs.Elements.{end_nets, switch_ends}
use Rattle.flat_net.specs.Islands.{combination_kind}
use Rattle.net_islands.specs.declared.parts.NetClass.{NetClass}
use Rattle.net_islands.specs.declared.parts.NetPlace.{NetPlace}
use Rattle.net_islands.specs.declared.parts.Grouping.{Grouping}
use Rattle.net_islands.specs.Keys.{lists_by_key}
use Rattle.net_islands.specs.Leasts.{leasts, island_count, island_numbers, places}

-- an element with nets below the count at its output pins and its ends, and with numbers for its pins
pub record HasNets (count : ℕ) (e : Element) : Type 0 where
  pub few : length e.outs ≤ 2 ^ 32
  pub outs : All (λ net. net < count) e.outs
  pub ends : All (λ net. net < count) (end_nets e.ends)

-- each net and its class, by the island in which it stands
abbrev pub members : List ℕ → List NetClass → List (ℕ × (ℕ × NetClass))
members numbers nets = zip numbers (enumerate_from 0 nets)

-- the output pin of an element, which drives the net, by the island of the net
abbrev pub drive : List ℕ → List ℕ → ℕ → ℕ → ℕ → ℕ × Drive
drive numbers within element pin net =
    (slice_index numbers net, record { element = element; pin = pin; place = slice_index within net })

-- the output pins of an element
abbrev pub element_drives : List ℕ → List ℕ → ℕ → List ℕ → List (ℕ × Drive)
element_drives numbers within element outs = map (λ (out : ℕ × ℕ). drive numbers within element out.0 out.1) (enumerate_from 0 outs)

-- the output pins of all elements, in order
abbrev pub drives : List ℕ → List ℕ → List Element → List (ℕ × Drive)
drives numbers within elements =
    flat_map (λ (e : ℕ × Element). element_drives numbers within e.0 e.1.outs) (enumerate_from 0 elements)

-- a switch between two nets, and the element that it is, by the island of its first end
abbrev pub link : List ℕ → List ℕ → Bool → ℕ → ℕ × ℕ → ℕ × (ℕ × Link)
link numbers within resistive element ends = (
  slice_index numbers ends.0,
  (element, record { a = slice_index within ends.0; b = slice_index within ends.1; resistive = resistive }),
)

-- the bidirectional switches, in order
abbrev pub links : List ℕ → List ℕ → List Element → List Bool → List (ℕ × (ℕ × Link))
links numbers within elements resistive =
    filter_map (λ (e : ℕ × Element). option_map (link numbers within (slice_index_or resistive e.0 false) e.0) e.1.ends)
    (enumerate_from 0 elements)

-- how an island of these nets and switches settles
abbrev pub shape : List (ℕ × NetClass) → List (ℕ × Link) → Shape
shape nets switches = record {
  kinds = map (λ (net : ℕ × NetClass). combination_kind net.1.kind) nets;
  charge = map (λ (net : ℕ × NetClass). net.1.charge) nets;
  links = map (λ (switch : ℕ × Link). switch.1) switches;
}

-- an island of these nets, output pins and switches
abbrev pub island : List (ℕ × NetClass) → List Drive → List (ℕ × Link) → Island
island nets pins switches = record {
  nets = map (λ (net : ℕ × NetClass). net.0) nets;
  drives = pins;
  links = map (λ (switch : ℕ × Link). switch.0) switches;
  shape = shape nets switches;
}

-- the islands of these lists of nets, output pins and switches
abbrev pub list_islands : ℕ → List (List (ℕ × NetClass)) → List (List Drive) → List (List (ℕ × Link)) → List Island
list_islands count nets pins switches =
    map (λ number. island (slice_index_or nets number []) (slice_index_or pins number []) (slice_index_or switches number []))
    (range_with_len 0 count)

-- so many islands of nets, output pins and switches, by the numbers of the islands
abbrev pub item_islands : ℕ → List (ℕ × (ℕ × NetClass)) → List (ℕ × Drive) → List (ℕ × (ℕ × Link)) → List Island
item_islands count nets pins switches = list_islands count (lists_by_key count nets) (lists_by_key count pins) (lists_by_key count switches)

-- the islands, by the numbers and places of the nets
abbrev pub islands : ℕ → List ℕ → List ℕ → List NetClass → List Element → List Bool → List Island
islands count numbers within nets elements resistive =
    item_islands count (members numbers nets) (drives numbers within elements) (links numbers within elements resistive)

-- for each net its island and its place there
abbrev pub net_places : List ℕ → List ℕ → List NetPlace
net_places numbers within = map (λ (net : ℕ × ℕ). record { island = net.0; place = net.1 }) (zip numbers within)

-- the grouping of nets with these least nets
abbrev pub grouping_by : List ℕ → List NetClass → List Element → List Bool → Grouping
grouping_by least nets elements resistive =
    let numbers = island_numbers least in
    let within = places numbers in
    record {
      places = net_places numbers within;
      islands = islands (island_count least) numbers within nets elements resistive;
    }

-- the grouping of a netlist: its islands in the order of their least nets, and the place of each net
abbrev pub grouping : List NetClass → List Element → List Bool → Grouping
grouping nets elements resistive = grouping_by (leasts (length nets) (switch_ends elements)) nets elements resistive
