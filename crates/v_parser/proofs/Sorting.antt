-- One turn of the loop that sorts descriptions.
use Rattle.std.proofs.Common.{◌≡◌, ◌≢◌, ℕ, zero, suc, ◌+◌, ◌-◌, ◌<◌, true, false, List, [], ◌∷◌, ◌++◌, length, Result, Ok, Err, refl, subst, sym, ap, ◌∙◌, append_assoc, append-nil}
use Rattle.v_tree.specs.declared.modules.Module.{Module}
use Rattle.v_tree.specs.declared.modules.Description.{Description}
use Rattle.v_tree.specs.declared.primitives.UdpDecl.{UdpDecl}
use Rattle.v_tree.specs.declared.directives.Directive.{Directive}
use Rattle.v_tree.specs.Tree.{module_of, udp_of, directive_of, modules_among, udps_among, directives_among}
use Rattle.v_parser.specs.declared.fault.ParseFault.{ParseFault}
use Rattle.v_parser.specs.declared.fault.ParseFault.TheVariants.{Memory}
use Rattle.v_parser.specs.Input.{Input, Outcome, front, is_finish, many_from, many_after, many, finish}
use Rattle.v_parser.specs.Descriptions.{description, descriptions}
use Rattle.v_parser.specs.Reading.{Lists, Sorts, ReadsSorted}
use Rattle.v_parser.proofs.Turns.{left_over, many_step}

-- what was read so far is sorted into three lists, and reading on in so many turns gives all
pub record IsSorted (n : ℕ) (modules : List Module) (udps : List UdpDecl) (directives : List Directive) (i : Input) (all : Outcome (List Description)) : Type 0 where
  pub found : List Description
  pub read : many_from is_finish description n found i ≡ all
  pub modules_are : modules_among found ≡ modules
  pub udps_are : udps_among found ≡ udps
  pub directives_are : directives_among found ≡ directives

-- the modules among descriptions and one more
modules_more : (ds : List Description) (d : Description) → modules_among (ds ++ d ∷ []) ≡ modules_among ds ++ module_of d
modules_more [] d = append-nil (module_of d)
modules_more (e ∷ ds) d = ap (λ (ms : List Module). module_of e ++ ms) (modules_more ds d) ∙ sym (append_assoc (module_of e) (modules_among ds) (module_of d))

-- the primitives among descriptions and one more
udps_more : (ds : List Description) (d : Description) → udps_among (ds ++ d ∷ []) ≡ udps_among ds ++ udp_of d
udps_more [] d = append-nil (udp_of d)
udps_more (e ∷ ds) d = ap (λ (us : List UdpDecl). udp_of e ++ us) (udps_more ds d) ∙ sym (append_assoc (udp_of e) (udps_among ds) (udp_of d))

-- the directives among descriptions and one more
directives_more : (ds : List Description) (d : Description) → directives_among (ds ++ d ∷ []) ≡ directives_among ds ++ directive_of d
directives_more [] d = append-nil (directive_of d)
directives_more (e ∷ ds) d = ap (λ (xs : List Directive). directive_of e ++ xs) (directives_more ds d) ∙ sym (append_assoc (directive_of e) (directives_among ds) (directive_of d))

-- nothing was read
pub sort_init : (n : ℕ) (ms : List Module) (us : List UdpDecl) (xs : List Directive) (i : Input) → n ≡ length i.tokens → ms ≡ [] → us ≡ [] → xs ≡ [] → IsSorted n ms us xs i (many is_finish description i)
unfolding many many_after
sort_init n ms us xs i all no_modules no_udps no_directives =
    record { found = []; read = ap (λ (m : ℕ). many_from is_finish description m [] i) all; modules_are = sym no_modules; udps_are = sym no_udps; directives_are = sym no_directives }

-- a description is read
pub sort_step : (n k : ℕ) (ms ms' : List Module) (us us' : List UdpDecl) (xs xs' : List Directive) (i j : Input) (d : Description) (all : Outcome (List Description)) → k < n → is_finish (front i) ≡ false
    → description i ≡ Ok (d, j) → ms' ≡ ms ++ module_of d → us' ≡ us ++ udp_of d → xs' ≡ xs ++ directive_of d → IsSorted (n - k) ms us xs i all → IsSorted (n - (k + 1)) ms' us' xs' j all
sort_step n k ms ms' us us' xs xs' i j d all below goes read new_ms new_us new_xs so_far = record {
  found = so_far.found ++ d ∷ [];
  read = many_step is_finish description n k so_far.found i j d all below goes read so_far.read;
  modules_are = modules_more so_far.found d ∙ ap (λ (xs : List Module). xs ++ module_of d) so_far.modules_are ∙ sym new_ms;
  udps_are = udps_more so_far.found d ∙ ap (λ (xs : List UdpDecl). xs ++ udp_of d) so_far.udps_are ∙ sym new_us;
  directives_are = directives_more so_far.found d ∙ ap (λ (ys : List Directive). ys ++ directive_of d) so_far.directives_are ∙ sym new_xs;
}

-- at the end of the text nothing more is read
stops_there : (n : ℕ) (found : List Description) (i : Input) → is_finish (front i) ≡ true → many_from is_finish description n found i ≡ Ok (found, i)
unfolding many_from
stops_there zero found i ended = refl
stops_there (suc n) found i ended = rw ended refl

-- where the text ends all is read
pub sort_ended : (n : ℕ) (ms : List Module) (us : List UdpDecl) (xs : List Directive) (i : Input) (all : Outcome (List Description)) → is_finish (front i) ≡ true → IsSorted n ms us xs i all → Sorts all ms us xs i
sort_ended n ms us xs i all ended so_far =
    record { found = so_far.found; read = sym so_far.read ∙ stops_there n so_far.found i ended; modules_are = so_far.modules_are; udps_are = so_far.udps_are; directives_are = so_far.directives_are }

-- in no turn nothing more is read
no_turn : (n : ℕ) (found : List Description) (i : Input) → n ≡ 0 → many_from is_finish description n found i ≡ Ok (found, i)
unfolding many_from
no_turn n found i none = rw none refl

-- where no turn is left all is read
pub sort_done : (n : ℕ) (ms : List Module) (us : List UdpDecl) (xs : List Directive) (i : Input) (all : Outcome (List Description)) → n ≡ 0 → IsSorted n ms us xs i all → Sorts all ms us xs i
sort_done n ms us xs i all none so_far =
    record { found = so_far.found; read = sym so_far.read ∙ no_turn n so_far.found i none; modules_are = so_far.modules_are; udps_are = so_far.udps_are; directives_are = so_far.directives_are }

-- what a turn refuses is refused
refuses : (n : ℕ) (found : List Description) (i : Input) (e : ParseFault) → is_finish (front i) ≡ false → description i ≡ Err e → many_from is_finish description (suc n) found i ≡ Err e
unfolding many_from
refuses n found i e goes refused = rw (goes, refused) refl

-- what a turn refuses is the outcome
pub sort_refused : (n k : ℕ) (ms : List Module) (us : List UdpDecl) (xs : List Directive) (i : Input) (e : ParseFault) (all : Outcome (List Description)) → k < n → is_finish (front i) ≡ false → description i ≡ Err e
    → IsSorted (n - k) ms us xs i all → all ≡ Err e
sort_refused n k ms us xs i e all below goes refused so_far =
    sym so_far.read ∙ ap (λ (m : ℕ). many_from is_finish description m so_far.found i) (left_over n k below) ∙ refuses (n - (k + 1)) so_far.found i e goes refused

-- the outcome of descriptions, and the end of the text behind them
pub sort_finish : (i m j : Input) (ms : List Module) (us : List UdpDecl) (xs : List Directive) → Sorts (many is_finish description i) ms us xs m → finish m ≡ Ok (tt, j) → Sorts (descriptions i) ms us xs j
unfolding descriptions
sort_finish i m j ms us xs sorted ended =
    let read = sorted.read in
    record { found = sorted.found; read = rw (read, ended) refl; modules_are = sorted.modules_are; udps_are = sorted.udps_are; directives_are = sorted.directives_are }

-- what the descriptions refuse is refused
pub many_refused : (i : Input) (e : ParseFault) → many is_finish description i ≡ Err e → descriptions i ≡ Err e
unfolding descriptions
many_refused i e refused = rw refused refl

-- what is refused behind descriptions is refused
pub finish_refused : (i m : Input) (ms : List Module) (us : List UdpDecl) (xs : List Directive) (e : ParseFault) → Sorts (many is_finish description i) ms us xs m → finish m ≡ Err e → descriptions i ≡ Err e
unfolding descriptions
finish_refused i m ms us xs e sorted refused =
    let read = sorted.read in
    rw (read, refused) refl

-- a refusal that is handed on
pub handed_on : (all : Outcome (List Description)) (answer : Result Lists ParseFault) (e : ParseFault) (j : Input) → answer ≡ Err e → (e ≢ Memory → all ≡ Err e) → ReadsSorted all answer j
handed_on all answer e j is refused = subst (λ (a : Result Lists ParseFault). ReadsSorted all a j) (sym is) refused
