-- What entries stand for when one more is added.
use Rattle.std.proofs.Common.{◌≡◌, ℕ, ◌+◌, ◌<◌, Bool, true, false, cond, List, [], ◌∷◌, ◌++◌, length, get_or, length-append, Option, Some, None, refl, sym, ap, subst, ◌∙◌, arith}
use Rattle.std.specs.Option.{option_or}
use Rattle.std.specs.List.{All}
use Rattle.std.proofs.lemmas.List.{map-append, length-map, get_or_append_left}
use Rattle.std.proofs.lemmas.List.Elements.{All-head, All-tail, All-push, All-weaker}
use Rattle.std.proofs.lemmas.Option.{slice_get-get_or}
use Rattle.std.proofs.Math.Seq.{get_or-append_seam}
use Rattle.name_table.specs.Names.{same_name, index_of}
use Rattle.module_graph.specs.Numbers.{lesser, number_at}
use Rattle.module_graph.proofs.NumberLaws.{index_of-push, least_new, same_name_equal}
use Rattle.module_scope.specs.declared.nets.ScopeNet.{ScopeNet}
use Rattle.module_scope.specs.declared.scopes.Scope.{Scope}
use Rattle.module_scope.specs.Scopes.{scope_net}
use Rattle.module_scope.proofs.Naming.{index_name, index_within}
use Rattle.module_ports.specs.declared.entries.PortEntry.{PortEntry}
use Rattle.module_ports.specs.declared.entries.PortEntries.{PortEntries}
use Rattle.module_ports.specs.Ports.{Port, names_of, port_of}
use Rattle.module_ports.specs.Entries.{AreEntries, port_at, ports_at}

or_none : (x : Option ℕ) → option_or x None ≡ x
or_none None = refl
or_none (Some k) = refl

module _ (q text : List ℕ) (before names : List (List ℕ)) (firsts : List ℕ) (whole : length firsts ≡ length names) (at : index_of q before ≡ number_at firsts (index_of q names)) where
  -- one more entry of a name that has one keeps the index of the first
  first_again : (k : ℕ) → index_of text names ≡ Some k → index_of q (before ++ text ∷ []) ≡ number_at firsts (index_of q names)
  first_again k found =
      index_of-push q before text
      ∙ ap (λ (x : Option ℕ). option_or x (cond (same_name q text) (Some (length before)) None)) at
      ∙ by (same_name q text) refl
    where
      by : (same : Bool) → same_name q text ≡ same → option_or (number_at firsts (index_of q names)) (cond same (Some (length before)) None) ≡ number_at firsts (index_of q names)
      by false is = or_none (number_at firsts (index_of q names))
      by true is =
          let here : index_of q names ≡ Some k = ap (λ (n : List ℕ). index_of n names) (same_name_equal q text is) ∙ found in
          let within : k < length names = index_within text names k found in
          let there : number_at firsts (index_of q names) ≡ Some (get_or firsts k 0) = ap (number_at firsts) here ∙ slice_get-get_or firsts k 0 (omega arith) in
          rw there refl

  -- the first entry of a name has the index of the last
  first_new : (count : ℕ) → count ≡ length before → index_of text names ≡ None → index_of q (before ++ text ∷ []) ≡ number_at (firsts ++ count ∷ []) (index_of q (names ++ text ∷ []))
  first_new count last absent =
      index_of-push q before text
      ∙ ap (λ (n : ℕ). option_or (index_of q before) (cond (same_name q text) (Some n) None)) (sym last)
      ∙ ap (λ (x : Option ℕ). option_or x (cond (same_name q text) (Some count) None)) at
      ∙ by (same_name q text) refl
      ∙ sym (least_new names firsts whole text count q absent)
    where
      other : (x : Option ℕ) → option_or x None ≡ lesser x None
      other None = refl
      other (Some k) = refl

      by : (same : Bool) → same_name q text ≡ same → option_or (number_at firsts (index_of q names)) (cond same (Some count) None) ≡ lesser (number_at firsts (index_of q names)) (cond same (Some count) None)
      by false is = other (number_at firsts (index_of q names))
      by true is =
          let here : index_of q names ≡ None = ap (λ (n : List ℕ). index_of n names) (same_name_equal q text is) ∙ absent in
          rw here refl

abbrev pub with_name : Option ScopeNet → List ℕ → Port
with_name net name = record { name = name; net = net }

-- one more name changes no port of those before it
ports_at-more : (names : List (List ℕ)) (last : List ℕ) (entries : List PortEntry) → All (λ entry. entry.name < length names) entries → ports_at (names ++ last ∷ []) entries ≡ ports_at names entries
ports_at-more names last [] within = refl
ports_at-more names last (e ∷ entries) within =
    let here : e.name < length names = All-head (λ (p : PortEntry). p.name < length names) e entries within in
    let same : get_or (names ++ last ∷ []) e.name [] ≡ get_or names e.name [] = get_or_append_left names (last ∷ []) [] e.name here in
    let rest : ports_at (names ++ last ∷ []) entries ≡ ports_at names entries = ports_at-more names last entries (All-tail (λ (p : PortEntry). p.name < length names) e entries within) in
    ap (λ (name : List ℕ). with_name e.net name ∷ ports_at (names ++ last ∷ []) entries) same
    ∙ ap (λ (ps : List Port). port_at names e ∷ ps) rest

-- the port of a name in a scope
pub port_is : (scope : Scope) (text name : List ℕ) (net : Option ScopeNet) → net ≡ scope_net scope text → text ≡ name → with_name net text ≡ port_of scope name
port_is scope text name net at is = ap (λ (n : Option ScopeNet). with_name n text) at ∙ ap (port_of scope) is

names_of-push : (ports : List Port) (port : Port) → names_of (ports ++ port ∷ []) ≡ names_of ports ++ port.name ∷ []
names_of-push ports port = map-append (λ (p : Port). p.name) ports (port ∷ [])

abbrev pub entry : ℕ → Option ScopeNet → PortEntry
entry name net = record { name = name; net = net }

abbrev pub entries_with : List (List ℕ) → List ℕ → List PortEntry → PortEntries
entries_with names firsts entries = record { names = names; firsts = firsts; entries = entries }

-- entries of so many names, and one more
module _ (names : List (List ℕ)) (firsts : List ℕ) (entries : List PortEntry) (are : AreEntries (entries_with names firsts entries)) (text : List ℕ) (net : Option ScopeNet) where
  abbrev ports : List Port
  ports = ports_at names entries

  abbrev port : Port
  port = with_name net text

  count : length entries ≡ length (names_of ports)
  count = sym (length-map ports (λ (p : Port). p.name) ∙ length-map entries (port_at names))

  module _ (k : ℕ) (found : index_of text names ≡ Some k) where
    pub ports_in-again : ports_at names (entries ++ entry k net ∷ []) ≡ ports ++ port ∷ []
    ports_in-again =
        map-append (port_at names) entries (entry k net ∷ [])
        ∙ ap (λ (name : List ℕ). ports ++ with_name net name ∷ []) (index_name text names k found)

    pub AreEntries-again : AreEntries (entries_with names firsts (entries ++ entry k net ∷ []))
    AreEntries-again = record {
      within = All-push (λ (e : PortEntry). e.name < length names) entries (entry k net) are.within (index_within text names k found);
      whole = are.whole;
      firsts = λ q.
          ap (λ (ps : List Port). index_of q (names_of ps)) ports_in-again
          ∙ ap (index_of q) (names_of-push ports port)
          ∙ first_again q text (names_of ports) names firsts are.whole (are.firsts q) k found;
    }

  module _ (absent : index_of text names ≡ None) where
    pub ports_in-new : ports_at (names ++ text ∷ []) (entries ++ entry (length names) net ∷ []) ≡ ports ++ port ∷ []
    ports_in-new =
        map-append (port_at (names ++ text ∷ [])) entries (entry (length names) net ∷ [])
        ∙ ap (λ (ps : List Port). ps ++ port_at (names ++ text ∷ []) (entry (length names) net) ∷ []) (ports_at-more names text entries are.within)
        ∙ ap (λ (name : List ℕ). ports ++ with_name net name ∷ []) (get_or-append_seam names text [] [])

    pub AreEntries-new : AreEntries (entries_with (names ++ text ∷ []) (firsts ++ length entries ∷ []) (entries ++ entry (length names) net ∷ []))
    AreEntries-new =
        let more : length (names ++ text ∷ []) ≡ length names + 1 = length-append names (text ∷ []) in
        record {
          within =
              All-push (λ (e : PortEntry). e.name < length (names ++ text ∷ [])) entries (entry (length names) net)
              (All-weaker (λ (e : PortEntry). e.name < length names) (λ (e : PortEntry). e.name < length (names ++ text ∷ [])) (λ e lt. omega arith) entries are.within)
              (omega arith);
          whole = length-append firsts (length entries ∷ []) ∙ ap (λ (n : ℕ). n + 1) are.whole ∙ sym more;
          firsts = λ q.
              ap (λ (ps : List Port). index_of q (names_of ps)) ports_in-new
              ∙ ap (index_of q) (names_of-push ports port)
              ∙ first_new q text (names_of ports) names firsts are.whole (are.firsts q) (length entries) count absent;
        }

    module _ (names2 : List (List ℕ)) (entries2 : List PortEntry) (index : ℕ) (names_are : names2 ≡ names ++ text ∷ []) (entries_are : entries2 ≡ entries ++ entry index net ∷ []) (at : index ≡ length names) where
      entries_at : entries2 ≡ entries ++ entry (length names) net ∷ []
      entries_at = entries_are ∙ ap (λ (n : ℕ). entries ++ entry n net ∷ []) at

      pub ports_in-after : ports_at names2 entries2 ≡ ports ++ port ∷ []
      ports_in-after =
          ap (λ (ns : List (List ℕ)). ports_at ns entries2) names_are
          ∙ ap (ports_at (names ++ text ∷ [])) entries_at
          ∙ ports_in-new

      pub AreEntries-after : (firsts2 : List ℕ) (last : ℕ) → firsts2 ≡ firsts ++ last ∷ [] → last ≡ length entries → AreEntries (entries_with names2 firsts2 entries2)
      AreEntries-after firsts2 last firsts_are is =
          subst (λ (ns : List (List ℕ)). AreEntries (entries_with ns firsts2 entries2)) (sym names_are)
          (subst (λ (fs : List ℕ). AreEntries (entries_with (names ++ text ∷ []) fs entries2)) (sym (firsts_are ∙ ap (λ (n : ℕ). firsts ++ n ∷ []) is))
          (subst (λ (es : List PortEntry). AreEntries (entries_with (names ++ text ∷ []) (firsts ++ length entries ∷ []) es)) (sym entries_at) AreEntries-new))
