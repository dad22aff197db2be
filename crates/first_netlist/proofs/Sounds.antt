-- A netlist that declarations mean is sound.
use Rattle.std.proofs.Common.{◌≡◌, ◌≢◌, ℕ, zero, suc, ◌+◌, ◌<◌, ◌≤◌, Bool, true, false, cond, not, ◌&&◌, leb, ltb, eqb, List, [], ◌∷◌, ◌++◌, length, get_or, filter, Option, Some, None, Result, Ok, Err, refl, sym, ap, subst, ◌∙◌, arith}
use Rattle.std.specs.List.{list_any, AllByRecursion}
use Rattle.std.proofs.lemmas.Bool.{and_parts, both_ways, not-true, leb-true, ltb-true, eq-eqb}
use Rattle.std.proofs.lemmas.List.{get_or_append_left, get_or-append-add, length-append, length-map}
use Rattle.std.proofs.lemmas.List.Folds.{list_any_at}
use Rattle.std.proofs.lemmas.List.Elements.{All-from_recursion}
use Rattle.std.proofs.lemmas.Option.{cond_some}
use Rattle.gate_net.specs.Sound.{AreNets, AreApart, IsGate, IsSound, driven_nets}
use Rattle.gate_net.specs.declared.netlist.Gate.{Gate}
use Rattle.gate_net.specs.declared.netlist.Netlist.{Netlist}
use Rattle.name_table.specs.Names.{is_among, is_distinct, index_of}
use Rattle.first_netlist.specs.declared.tree.Instance.{Instance}
use Rattle.std.specs.Prelude.{IfOk, IsTrue}
use Rattle.gate_net.specs.declared.fault.BuildFault.{BuildFault}
use Rattle.gate_net.specs.Steps.{◌>>=◌, Gives, each}
use Rattle.first_netlist.specs.Declarations.{Declarations}
use Rattle.first_netlist.specs.Meaning.{limit, distinct_names, net_names, names_besides, nets_of, indices_from, ports_agree, ports_of, inputs_at, gate_of, is_apart, meaning}
use Rattle.first_netlist.proofs.Indices.{index_within}

-- the value of a step that found something
bind_some : {A B : Type 0} (r : Option A) (f : A → Option B) (y : B) → (r >>= f) ≡ Some y → (x : A) × (r ≡ Some x) × (f x ≡ Some y)
bind_some (Some x) f y e = (x, refl, e)
bind_some None f y e = absurd cc

abbrev netlist_with : List (List ℕ) → List ℕ → List ℕ → List Gate → Netlist
netlist_with names inputs outputs gates = record { names = names; inputs = inputs; outputs = outputs; gates = gates }

abbrev some_of : {A : Type 0} → A → Option A
some_of x = Some x

some_is : {A : Type 0} (x y : A) → some_of x ≡ some_of y → x ≡ y
some_is x y e = cc

AreNets-cons : (count n : ℕ) (ns : List ℕ) → n < count → AreNets count ns → AreNets count (n ∷ ns)
AreNets-cons count n ns h below zero lt = h
AreNets-cons count n ns h below (suc k) lt = below k (omega arith)

indices_below : (count k : ℕ) (others names : List (List ℕ)) → k + length names ≤ count → AreNets count (indices_from k others names)
indices_below count k others [] le = λ i lt. absurd (omega arith)
indices_below count k others (name ∷ names) le = by (is_among name others) (indices_below count (suc k) others names (omega arith))
  where
    by : (b : Bool) → AreNets count (indices_from (suc k) others names) → AreNets count (cond b (k ∷ indices_from (suc k) others names) (indices_from (suc k) others names))
    by true rest = AreNets-cons count k (indices_from (suc k) others names) (omega arith) rest
    by false rest = rest

each_below : (nets names : List (List ℕ)) (ks : List ℕ) → each (λ name. index_of name nets) names ≡ Some ks → AreNets (length nets) ks
each_below nets [] ks e = subst (λ (ns : List ℕ). AreNets (length nets) ns) (some_is [] ks e) (λ k lt. absurd (omega arith))
each_below nets (name ∷ names) ks e =
    let a = bind_some (index_of name nets) (λ first. each (λ name. index_of name nets) names >>= λ others. Some (first ∷ others)) ks e in
    let b = bind_some (each (λ name. index_of name nets) names) (λ others. Some (a.0 ∷ others)) ks a.2 in
    subst (λ (ns : List ℕ). AreNets (length nets) ns) (some_is (a.0 ∷ b.0) ks b.2) (AreNets-cons (length nets) a.0 b.0 (index_within name nets a.0 a.1) (each_below nets names b.0 b.1))

inputs_below : (nets names : List (List ℕ)) (ks : List ℕ) → inputs_at nets names ≡ Some ks → AreNets (length nets) ks × (0 < length ks)
unfolding inputs_at
inputs_below nets names ks e =
    let a = bind_some (each (λ name. index_of name nets) names) (λ inputs. cond (ltb 0 (length inputs)) (Some inputs) None) ks e in
    let g = cond_some (ltb 0 (length a.0)) a.0 ks a.2 in
    subst (λ (ns : List ℕ). AreNets (length nets) ns × (0 < length ns)) g.1 (each_below nets names a.0 a.1, ltb-true 0 (length a.0) g.0)

gate_below : (nets : List (List ℕ)) (instance : Instance) (gate : Gate) → gate_of nets instance ≡ Some gate → IsGate (length nets) gate
unfolding gate_of
gate_below nets instance gate e =
    let a = bind_some (index_of instance.output nets) (λ output. inputs_at nets instance.inputs >>= λ inputs. Some (record { output = output; inputs = inputs })) gate e in
    let b = bind_some (inputs_at nets instance.inputs) (λ inputs. Some (record { output = a.0; inputs = inputs })) gate a.2 in
    let made : Gate = record { output = a.0; inputs = b.0 } in
    let within = inputs_below nets instance.inputs b.0 b.1 in
    subst (λ (g : Gate). IsGate (length nets) g) (some_is made gate b.2) (record { output = index_within instance.output nets a.0 a.1; inputs = within.0; some = within.1 })

gates_below : (nets : List (List ℕ)) (instances : List Instance) (gates : List Gate) → each (gate_of nets) instances ≡ Some gates → AllByRecursion (IsGate (length nets)) gates
gates_below nets [] gates e = subst (λ (gs : List Gate). AllByRecursion (IsGate (length nets)) gs) (some_is [] gates e) tt
gates_below nets (instance ∷ instances) gates e =
    let a = bind_some (gate_of nets instance) (λ first. each (gate_of nets) instances >>= λ others. Some (first ∷ others)) gates e in
    let b = bind_some (each (gate_of nets) instances) (λ others. Some (a.0 ∷ others)) gates a.2 in
    subst (λ (gs : List Gate). AllByRecursion (IsGate (length nets)) gs) (some_is (a.0 ∷ b.0) gates b.2) (gate_below nets instance a.0 a.1, gates_below nets instances b.0 b.1)

apart_indices : (ns : List ℕ) → is_apart ns ≡ true → AreApart ns
apart_indices [] h j k lt within = absurd (omega arith)
apart_indices (n ∷ ns) h j zero lt within = absurd (omega arith)
apart_indices (n ∷ ns) h zero (suc k) lt within = λ same.
    let parts = and_parts (not (list_any (eqb n) ns)) (is_apart ns) h in
    both_ways (list_any (eqb n) ns) (not-true (list_any (eqb n) ns) parts.0) (list_any_at (eqb n) ns k 0 (omega arith) (eq-eqb n (get_or ns k 0) same))
apart_indices (n ∷ ns) h (suc j) (suc k) lt within =
    let parts = and_parts (not (list_any (eqb n) ns)) (is_apart ns) h in
    apart_indices ns parts.1 j k (omega arith) (omega arith)

module _ (xs ys : List ℕ) (h : AreApart (xs ++ ys)) where
  apart_left : AreApart xs
  apart_left j k lt within = λ same. h j k lt (omega (arith, length-append xs ys)) (get_or_append_left xs ys 0 j (omega arith) ∙ same ∙ sym (get_or_append_left xs ys 0 k within))

  apart_right : AreApart ys
  apart_right j k lt within = λ same. h (length xs + j) (length xs + k) (omega arith) (omega (arith, length-append xs ys)) (get_or-append-add xs ys j 0 ∙ same ∙ sym (get_or-append-add xs ys k 0))

  apart_across : (j k : ℕ) → j < length xs → k < length ys → get_or xs j 0 ≢ get_or ys k 0
  apart_across j k left right = λ same. h j (length xs + k) (omega arith) (omega (arith, length-append xs ys)) (get_or_append_left xs ys 0 j left ∙ same ∙ sym (get_or-append-add xs ys k 0))

distinct_is : (names found : List (List ℕ)) → distinct_names names ≡ Some found → names ≡ found
unfolding distinct_names
distinct_is names found e = (cond_some (is_distinct names) names found e).1

header_within : (d : Declarations) (names : List (List ℕ)) → net_names d ≡ Some names → length d.header ≤ length names
unfolding net_names
header_within d names e =
    let all = d.header ++ filter (λ name. not (is_among name d.header)) d.wires in
    let a = bind_some (distinct_names d.header) (λ header. distinct_names d.wires >>= λ wires. Some all) names e in
    let b = bind_some (distinct_names d.wires) (λ wires. Some all) names a.2 in
    subst (λ (ns : List (List ℕ)). length d.header ≤ length ns) (some_is all names b.2) (omega (arith, length-append d.header (filter (λ name. not (is_among name d.header)) d.wires)))

nets_few : (d : Declarations) (nets : List (List ℕ)) → nets_of d ≡ Some nets → (length nets ≤ limit) × (length d.header ≤ length nets)
unfolding nets_of
nets_few d nets e =
    let a = bind_some (net_names d) (λ names. distinct_names names >>= λ found. names_besides found d.gates >>= λ instances. cond (leb (length found) limit) (Some found) None) nets e in
    let b = bind_some (distinct_names a.0) (λ found. names_besides found d.gates >>= λ instances. cond (leb (length found) limit) (Some found) None) nets a.2 in
    let c = bind_some (names_besides b.0 d.gates) (λ instances. cond (leb (length b.0) limit) (Some b.0) None) nets b.2 in
    let g = cond_some (leb (length b.0) limit) b.0 nets c.2 in
    let same : length a.0 ≡ length b.0 = ap length (distinct_is a.0 b.0 b.1) in
    subst (λ (ns : List (List ℕ)). (length ns ≤ limit) × (length d.header ≤ length ns)) g.1 (leb-true (length b.0) limit g.0, omega (arith, same, header_within d a.0 a.1))

ports_within : (d : Declarations) (ports : List ℕ × List ℕ) (count : ℕ) → ports_of d ≡ Some ports → length d.header ≤ count → AreNets count ports.0 × AreNets count ports.1
unfolding ports_of
ports_within d ports count e le =
    let agree = ports_agree d.header d.inputs d.outputs in
    let a = bind_some (distinct_names d.header) (λ header. distinct_names d.inputs >>= λ inputs. distinct_names d.outputs >>= λ outputs. cond agree (Some (indices_from 0 inputs d.header, indices_from 0 outputs d.header)) None) ports e in
    let b = bind_some (distinct_names d.inputs) (λ inputs. distinct_names d.outputs >>= λ outputs. cond agree (Some (indices_from 0 inputs d.header, indices_from 0 outputs d.header)) None) ports a.2 in
    let c = bind_some (distinct_names d.outputs) (λ outputs. cond agree (Some (indices_from 0 b.0 d.header, indices_from 0 outputs d.header)) None) ports b.2 in
    let made : List ℕ × List ℕ = (indices_from 0 b.0 d.header, indices_from 0 c.0 d.header) in
    let g = cond_some agree made ports c.2 in
    subst (λ (p : List ℕ × List ℕ). AreNets count p.0 × AreNets count p.1) g.1 (indices_below count 0 b.0 d.header (omega arith), indices_below count 0 c.0 d.header (omega arith))

pub meaning_sound : (d : Declarations) (netlist : Netlist) → meaning d ≡ Some netlist → IsSound netlist
unfolding meaning
meaning_sound d netlist e =
    let made = λ (nets : List (List ℕ)) (ports : List ℕ × List ℕ) (gates : List Gate). netlist_with nets ports.0 ports.1 gates in
    let a = bind_some (nets_of d) (λ nets. ports_of d >>= λ ports. each (gate_of nets) d.gates >>= λ gates. cond (is_apart (ports.0 ++ driven_nets gates) && leb (length gates) limit) (Some (made nets ports gates)) None) netlist e in
    let b = bind_some (ports_of d) (λ ports. each (gate_of a.0) d.gates >>= λ gates. cond (is_apart (ports.0 ++ driven_nets gates) && leb (length gates) limit) (Some (made a.0 ports gates)) None) netlist a.2 in
    let c = bind_some (each (gate_of a.0) d.gates) (λ gates. cond (is_apart (b.0.0 ++ driven_nets gates) && leb (length gates) limit) (Some (made a.0 b.0 gates)) None) netlist b.2 in
    let g = cond_some (is_apart (b.0.0 ++ driven_nets c.0) && leb (length c.0) limit) (made a.0 b.0 c.0) netlist c.2 in
    let parts = and_parts (is_apart (b.0.0 ++ driven_nets c.0)) (leb (length c.0) limit) g.0 in
    let few = nets_few d a.0 a.1 in
    let within = ports_within d b.0 (length a.0) b.1 few.1 in
    let apart = apart_indices (b.0.0 ++ driven_nets c.0) parts.0 in
    subst (λ (n : Netlist). IsSound n) g.1 (record {
      few_nets = few.0;
      few_gates = leb-true (length c.0) limit parts.1;
      inputs = within.0;
      inputs_apart = apart_left b.0.0 (driven_nets c.0) apart;
      outputs = within.1;
      gates = All-from_recursion (IsGate (length a.0)) c.0 (gates_below a.0 d.gates c.0 c.1);
      one_driver = apart_right b.0.0 (driven_nets c.0) apart;
      inputs_free = λ j k left right. apart_across b.0.0 (driven_nets c.0) apart j k left (omega (arith, right, length-map c.0 (λ (gate : Gate). gate.output)));
    })

distinct_holds : (names found : List (List ℕ)) → distinct_names names ≡ Some found → is_distinct found ≡ true
unfolding distinct_names
distinct_holds names found e =
    let g = cond_some (is_distinct names) names found e in
    subst (λ (ns : List (List ℕ)). is_distinct ns ≡ true) g.1 g.0

nets_distinct : (d : Declarations) (nets : List (List ℕ)) → nets_of d ≡ Some nets → is_distinct nets ≡ true
unfolding nets_of
nets_distinct d nets e =
    let a = bind_some (net_names d) (λ names. distinct_names names >>= λ found. names_besides found d.gates >>= λ instances. cond (leb (length found) limit) (Some found) None) nets e in
    let b = bind_some (distinct_names a.0) (λ found. names_besides found d.gates >>= λ instances. cond (leb (length found) limit) (Some found) None) nets a.2 in
    let c = bind_some (names_besides b.0 d.gates) (λ instances. cond (leb (length b.0) limit) (Some b.0) None) nets b.2 in
    let g = cond_some (leb (length b.0) limit) b.0 nets c.2 in
    subst (λ (ns : List (List ℕ)). is_distinct ns ≡ true) g.1 (distinct_holds a.0 b.0 b.1)

pub meaning_distinct : (d : Declarations) (netlist : Netlist) → meaning d ≡ Some netlist → is_distinct netlist.names ≡ true
unfolding meaning
meaning_distinct d netlist e =
    let made = λ (nets : List (List ℕ)) (ports : List ℕ × List ℕ) (gates : List Gate). netlist_with nets ports.0 ports.1 gates in
    let a = bind_some (nets_of d) (λ nets. ports_of d >>= λ ports. each (gate_of nets) d.gates >>= λ gates. cond (is_apart (ports.0 ++ driven_nets gates) && leb (length gates) limit) (Some (made nets ports gates)) None) netlist e in
    let b = bind_some (ports_of d) (λ ports. each (gate_of a.0) d.gates >>= λ gates. cond (is_apart (ports.0 ++ driven_nets gates) && leb (length gates) limit) (Some (made a.0 ports gates)) None) netlist a.2 in
    let c = bind_some (each (gate_of a.0) d.gates) (λ gates. cond (is_apart (b.0.0 ++ driven_nets gates) && leb (length gates) limit) (Some (made a.0 b.0 gates)) None) netlist b.2 in
    let g = cond_some (is_apart (b.0.0 ++ driven_nets c.0) && leb (length c.0) limit) (made a.0 b.0 c.0) netlist c.2 in
    subst (λ (n : Netlist). is_distinct n.names ≡ true) g.1 (nets_distinct d a.0 a.1)

pub result_distinct : (d : Declarations) (r : Result Netlist BuildFault) → Gives (λ netlist. netlist) r (meaning d) → IfOk r (λ netlist. IsTrue (is_distinct netlist.names))
result_distinct d (Ok netlist) given = meaning_distinct d netlist given
result_distinct d (Err e) given = tt

pub result_sound : (d : Declarations) (r : Result Netlist BuildFault) → Gives (λ netlist. netlist) r (meaning d) → IfOk r IsSound
result_sound d (Ok netlist) given = meaning_sound d netlist given
result_sound d (Err e) given = tt
