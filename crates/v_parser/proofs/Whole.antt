-- What is read of all tokens of a text is its tree, and it has no other.
use Rattle.std.proofs.Common.{◌≡◌, ℕ, ◌≤◌, List, [], ◌∷◌, length, Result, Ok, Err, refl, sym, ap, subst, ◌∙◌, arith}
use Rattle.std.specs.Prelude.{IfOk, IfErr}
use Rattle.std.specs.List.{AllByRecursion}
use Rattle.v_lexer.specs.declared.token.Token.{Token}
use Rattle.v_lexer.specs.Reading.{AreTokensOf}
use Rattle.v_tree.specs.declared.modules.Module.{Module}
use Rattle.v_tree.specs.declared.modules.Description.{Description}
use Rattle.v_tree.specs.declared.modules.Description.TheVariants as described
use Rattle.v_tree.specs.declared.modules.File.{File}
use Rattle.v_tree.specs.declared.primitives.UdpDecl.{UdpDecl}
use Rattle.v_tree.specs.declared.directives.Directive.{Directive}
use Rattle.v_tree.specs.Written.{AreWritten, bare, exactly}
use Rattle.v_tree.specs.Written as form
use Rattle.v_tree.specs.Spelling.{spelling}
use Rattle.v_tree.specs.Fit.{AreFit, AreFitLists, IsFitModule, IsFitUdp, IsFitDirective, IsFitDescription}
use Rattle.v_tree.specs.Tree.{IsTreeOf, modules_among, udps_among, directives_among, all_descriptions, in_order, descriptions as descriptions_in}
use Rattle.v_parser.specs.declared.fault.ParseFault.{ParseFault}
use Rattle.v_parser.specs.declared.fault.ParseFault.TheVariants.{Unsupported, Syntax, Memory}
use Rattle.v_parser.specs.Input.{Input, Outcome}
use Rattle.v_parser.specs.Descriptions.{descriptions}
use Rattle.v_parser.specs.Reading.{Lists, whole, descriptions_of, Sorts, ReadsSorted, GivesLists, IsSameFile, IsRefusalOf}
use Rattle.v_parser.proofs.Order.{ordered, written_rise}
use Rattle.v_parser.proofs.Laws.{read_found, read_only, refused_found}

-- what reading from an input with all tokens ensures, said of the text
pub gives_of : (text : List ℕ) (tokens : List Token) (input new : Input) (answer : Result Lists ParseFault) → input ≡ whole text tokens → ReadsSorted (descriptions input) answer new
    → GivesLists (descriptions_of text tokens) answer
gives_of text tokens input new (Ok lists) is reads = (new, subst (λ (i : Input). Sorts (descriptions i) lists.0 lists.1 lists.2 new) is reads)
gives_of text tokens input new (Err e) is reads = λ other. sym (ap descriptions is) ∙ reads other

-- there are no more modules than descriptions, and each keeps what it has to
modules_fit : (ds : List Description) → AllByRecursion IsFitDescription ds → (length (modules_among ds) ≤ length ds) × AllByRecursion IsFitModule (modules_among ds)
modules_fit [] f = (omega arith, tt)
modules_fit (described.Module m ∷ ds) f =
    let r = modules_fit ds f.1 in
    (omega (arith, r.0), (f.0, r.1))
modules_fit (d ∷ ds) f =
    let r = modules_fit ds f.1 in
    (omega (arith, r.0), r.1)

-- there are no more primitives than descriptions, and each keeps what it has to
udps_fit : (ds : List Description) → AllByRecursion IsFitDescription ds → (length (udps_among ds) ≤ length ds) × AllByRecursion IsFitUdp (udps_among ds)
udps_fit [] f = (omega arith, tt)
udps_fit (described.Udp u ∷ ds) f =
    let r = udps_fit ds f.1 in
    (omega (arith, r.0), (f.0, r.1))
udps_fit (d ∷ ds) f =
    let r = udps_fit ds f.1 in
    (omega (arith, r.0), r.1)

-- there are no more directives than descriptions, and each keeps what it has to
directives_fit : (ds : List Description) → AllByRecursion IsFitDescription ds → (length (directives_among ds) ≤ length ds) × AllByRecursion IsFitDirective (directives_among ds)
directives_fit [] f = (omega arith, tt)
directives_fit (described.Directive d ∷ ds) f =
    let r = directives_fit ds f.1 in
    (omega (arith, r.0), (f.0, r.1))
directives_fit (d ∷ ds) f =
    let r = directives_fit ds f.1 in
    (omega (arith, r.0), r.1)

-- the lists of descriptions that keep what they have to do so too
lists_fit : (ds : List Description) → AreFit IsFitDescription ds → AreFitLists (modules_among ds) (udps_among ds) (directives_among ds)
lists_fit ds f =
    let m = modules_fit ds f.each in
    let u = udps_fit ds f.each in
    let d = directives_fit ds f.each in
    record {
      modules = record { few = omega (arith, m.0, f.few); each = m.1 };
      udps = record { few = omega (arith, u.0, f.few); each = u.1 };
      directives = record { few = omega (arith, d.0, f.few); each = d.1 };
    }

-- the lists that are answered keep what a file keeps
pub fit_of : (text : List ℕ) (tokens : List Token) (answer : Result Lists ParseFault) → length text ≤ 67108864 → AreTokensOf text tokens → GivesLists (descriptions_of text tokens) answer
    → IfOk answer (λ lists. AreFitLists lists.0 lists.1 lists.2)
fit_of text tokens (Ok lists) small are gives =
    let found = gives.1.found in
    let fits = lists_fit found (read_found text tokens found gives.0 small are gives.1.read).1 in
    subst (λ (ms : List Module). AreFitLists ms lists.1 lists.2) gives.1.modules_are
    (subst (λ (us : List UdpDecl). AreFitLists (modules_among found) us lists.2) gives.1.udps_are
    (subst (λ (xs : List Directive). AreFitLists (modules_among found) (udps_among found) xs) gives.1.directives_are fits))
fit_of text tokens (Err e) small are gives = tt

-- a file of the lists that are read has the descriptions that were read, in their order
order_of : (text : List ℕ) (tokens : List Token) (f : File) (ds : List Description) → AreWritten text 0 tokens (spelling ds) → modules_among ds ≡ f.modules → udps_among ds ≡ f.udps → directives_among ds ≡ f.directives
    → descriptions_in f ≡ ds
unfolding descriptions_in
order_of text tokens f ds written modules udps directives =
    ap (λ (ms : List Module). in_order (all_descriptions ms f.udps f.directives)) (sym modules)
    ∙ ap (λ (us : List UdpDecl). in_order (all_descriptions (modules_among ds) us f.directives)) (sym udps)
    ∙ ap (λ (xs : List Directive). in_order (all_descriptions (modules_among ds) (udps_among ds) xs)) (sym directives)
    ∙ ordered 0 ds (written_rise text 0 tokens ds (exactly (bare form.End ∷ [])) written)

-- a file of the lists that are read is the tree
pub tree_of : (text : List ℕ) (tokens : List Token) (f : File) → length text ≤ 67108864 → AreTokensOf text tokens → GivesLists (descriptions_of text tokens) (Ok (f.modules, f.udps, f.directives)) → IsTreeOf text tokens f
tree_of text tokens f small are gives =
    let found = gives.1.found in
    let all = read_found text tokens found gives.0 small are gives.1.read in
    let same : descriptions_in f ≡ found = order_of text tokens f found all.0 gives.1.modules_are gives.1.udps_are gives.1.directives_are in
    record {
      written = subst (λ (ds : List Description). AreWritten text 0 tokens (spelling ds)) (sym same) all.0;
      fit = subst (λ (ds : List Description). AreFit IsFitDescription ds) (sym same) all.1;
      modules = ap modules_among same ∙ gives.1.modules_are;
      udps = ap udps_among same ∙ gives.1.udps_are;
      directives = ap directives_among same ∙ gives.1.directives_are;
    }

-- the descriptions of an outcome, or others
abbrev descriptions_or : List Description → Outcome (List Description) → List Description
descriptions_or others (Ok found) = found.0
descriptions_or others (Err e) = others

-- an outcome has one list of descriptions
same_descriptions : (ds es : List Description) (r s : Input) (outcome : Outcome (List Description)) → outcome ≡ Ok (ds, r) → outcome ≡ Ok (es, s) → ds ≡ es
same_descriptions ds es r s outcome one other = ap (descriptions_or ds) (sym one ∙ other)

-- an outcome with descriptions is no refusal
no_refusal : (ds : List Description) (rest : Input) (outcome : Outcome (List Description)) (e : ParseFault) → outcome ≡ Ok (ds, rest) → outcome ≡ Err e → ⊥
no_refusal ds rest outcome e ok err = cc

-- what is written with the tokens is read
there : (text : List ℕ) (tokens : List Token) (tree : File) → length text ≤ 67108864 → AreTokensOf text tokens → IsTreeOf text tokens tree → (rest : Input) × (descriptions_of text tokens ≡ Ok (descriptions_in tree, rest))
there text tokens tree small are is = read_only text tokens (descriptions_in tree) small are is.written is.fit

-- a file of the lists that are read is each tree
pub same_of : (text : List ℕ) (tokens : List Token) (f : File) → length text ≤ 67108864 → AreTokensOf text tokens → GivesLists (descriptions_of text tokens) (Ok (f.modules, f.udps, f.directives)) → (tree : File) → IsTreeOf text tokens tree → IsSameFile f tree
same_of text tokens f small are gives tree is =
    let read = there text tokens tree small are is in
    let same : gives.1.found ≡ descriptions_in tree = same_descriptions gives.1.found (descriptions_in tree) gives.0 read.0 (descriptions_of text tokens) gives.1.read read.1 in
    record {
      modules = sym gives.1.modules_are ∙ ap modules_among same ∙ is.modules;
      udps = sym gives.1.udps_are ∙ ap udps_among same ∙ is.udps;
      directives = sym gives.1.directives_are ∙ ap directives_among same ∙ is.directives;
    }

-- the tokens of a text have one tree at most
pub one_tree : (text : List ℕ) (tokens : List Token) (a b : File) → length text ≤ 67108864 → AreTokensOf text tokens → IsTreeOf text tokens a → IsTreeOf text tokens b → IsSameFile a b
one_tree text tokens a b small are is other =
    let one = there text tokens a small are is in
    let two = there text tokens b small are other in
    let same : descriptions_in a ≡ descriptions_in b = same_descriptions (descriptions_in a) (descriptions_in b) one.0 two.0 (descriptions_of text tokens) one.1 two.1 in
    record {
      modules = sym is.modules ∙ ap modules_among same ∙ other.modules;
      udps = sym is.udps ∙ ap udps_among same ∙ other.udps;
      directives = sym is.directives ∙ ap directives_among same ∙ other.directives;
    }

-- where there is a tree, nothing but want of memory is answered instead
pub memory_of : (text : List ℕ) (tokens : List Token) (e : ParseFault) → length text ≤ 67108864 → AreTokensOf text tokens → GivesLists (descriptions_of text tokens) (Err e) → (tree : File) → IsTreeOf text tokens tree → e ≡ Memory
memory_of text tokens Memory small are gives tree is = refl
memory_of text tokens (Syntax n) small are gives tree is =
    let read = there text tokens tree small are is in
    absurd (no_refusal (descriptions_in tree) read.0 (descriptions_of text tokens) (Syntax n) read.1 (gives (λ e. cc)))
memory_of text tokens (Unsupported n) small are gives tree is =
    let read = there text tokens tree small are is in
    absurd (no_refusal (descriptions_in tree) read.0 (descriptions_of text tokens) (Unsupported n) read.1 (gives (λ e. cc)))

-- what is answered as a fault, but want of memory, is a token of the list
pub refused_of : (text : List ℕ) (tokens : List Token) (answer : Result Lists ParseFault) → AreTokensOf text tokens → GivesLists (descriptions_of text tokens) answer
    → IfErr answer (λ fault. IsRefusalOf text tokens fault)
refused_of text tokens (Ok found) are gives = tt
refused_of text tokens (Err Memory) are gives = tt
refused_of text tokens (Err (Unsupported n)) are gives = (refused_found text tokens (Unsupported n) are (gives (λ e. cc))).1
refused_of text tokens (Err (Syntax n)) are gives = (refused_found text tokens (Syntax n) are (gives (λ e. cc))).1
