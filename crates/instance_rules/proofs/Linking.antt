-- The places of one level made of those of the level below.
use Rattle.std.proofs.Common.{◌≡◌, List, [], ◌∷◌, None, refl, sym, ap, ◌∙◌}
use Rattle.std.specs.List.{flat_map}
use Rattle.std.proofs.lemmas.List.{append-nil}
use Rattle.v_tree.specs.declared.locations.Location.{Location}
use Rattle.v_tree.specs.declared.gates.Inst.{Inst}
use Rattle.v_tree.specs.declared.gates.Instance.{Instance}
use Rattle.rule_places.specs.Places.{first_place}
use Rattle.item_parts.specs.Drives.{drive_places}
use Rattle.module_scope.specs.declared.scopes.Scope.{Scope}
use Rattle.instance_rules.specs.declared.places.ItemPlaces.{ItemPlaces}
use Rattle.instance_rules.specs.Items.{InstanceRule, item_places}
use Rattle.instance_rules.specs.Items.InstanceRule.{Widths, Counts, Delays, Drives, Connections, Literals}
use Rattle.instance_rules.specs.Links.{Link, MasterPorts, links}
use Rattle.instance_rules.specs.Rules.{inst_connections, inst_counts, item_delays, link_literals, link_widths}
use Rattle.instance_rules.specs.Walks.{AreFirst, inst_places, link_places, links_places, place_of}

module _ (scope : Scope) (ports : MasterPorts) where
  pub AreFirst-link : (l : Link) (p : ItemPlaces) →
      p.widths ≡ first_place (link_widths scope ports l) → p.literals ≡ first_place (link_literals ports l) →
      p.counts ≡ None → p.delays ≡ None → p.drives ≡ None → p.connections ≡ None →
      AreFirst (λ rule. link_places rule scope ports l) p
  AreFirst-link l p widths literals counts delays drives connections rule = by rule
    where
      by : (rule : InstanceRule) → first_place (link_places rule scope ports l) ≡ place_of rule p
      by Widths = sym widths
      by Literals = sym literals
      by Counts = sym counts
      by Delays = sym delays
      by Drives = sym drives
      by Connections = sym connections

  pub AreFirst-one : (l : Link) (p : ItemPlaces) → AreFirst (λ rule. link_places rule scope ports l) p → AreFirst (λ rule. links_places rule scope ports (l ∷ [])) p
  AreFirst-one l p first rule = ap first_place (append-nil (link_places rule scope ports l)) ∙ first rule

  flat_map_none : {X : Type 0} (xs : List X) → flat_map {X = X} {A = Location} (λ x. []) xs ≡ []
  flat_map_none [] = refl
  flat_map_none (x ∷ xs) = flat_map_none xs

  pub AreFirst-inst : (inst : Inst) (p q : ItemPlaces) → AreFirst (λ rule. links_places rule scope ports (links ports inst.connections)) p →
      q.counts ≡ first_place (inst_counts ports inst) → q.connections ≡ first_place (inst_connections ports inst) →
      q.widths ≡ p.widths → q.literals ≡ p.literals → q.delays ≡ p.delays → q.drives ≡ p.drives →
      AreFirst (λ rule. inst_places rule scope ports inst) q
  AreFirst-inst inst p q first counts connections widths literals delays drives rule = by rule
    where
      by : (rule : InstanceRule) → first_place (inst_places rule scope ports inst) ≡ place_of rule q
      by Widths = first Widths ∙ sym widths
      by Literals = first Literals ∙ sym literals
      by Counts = sym counts
      by Connections = sym connections
      by Delays = sym (ap first_place (flat_map_none (links ports inst.connections))) ∙ first Delays ∙ sym delays
      by Drives = sym (ap first_place (flat_map_none (links ports inst.connections))) ∙ first Drives ∙ sym drives

  pub AreFirst-item : (i : Instance) (p q : ItemPlaces) → AreFirst (λ rule. flat_map (inst_places rule scope ports) i.instances) p →
      q.delays ≡ first_place (item_delays ports i) → q.drives ≡ first_place (drive_places i.drive) →
      q.widths ≡ p.widths → q.literals ≡ p.literals → q.counts ≡ p.counts → q.connections ≡ p.connections →
      AreFirst (λ rule. item_places rule scope ports i) q
  AreFirst-item i p q first delays drives widths literals counts connections rule = by rule
    where
      by : (rule : InstanceRule) → first_place (item_places rule scope ports i) ≡ place_of rule q
      by Widths = first Widths ∙ sym widths
      by Literals = first Literals ∙ sym literals
      by Counts = first Counts ∙ sym counts
      by Connections = first Connections ∙ sym connections
      by Delays = sym delays
      by Drives = sym drives
