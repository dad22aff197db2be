-- The clauses of the top call, from what the report says and what its writing did.
use Rattle.std.proofs.Common.{◌≡◌, ◌≢◌, ℕ, ◌≤◌, Bool, true, false, List, [], ◌∷◌, get_or, length, Option, Some, None, refl, sym, ap, ◌∙◌, subst, arith, inl, inr, ◌⊎◌}
use Rattle.std.proofs.Math.Seq.{take-nil}
use Rattle.std.specs.Prelude.{IfSome, IsOk, is_some, ◌&&◌, if◌then◌else◌}
use Rattle.outside_io.specs.Outside.{Gains, GainsPrefix}
use Rattle.cfsim.specs.Words.{Call, names_file, call_of}
use Rattle.cfsim.specs.Messages.{usage_line, cannot_read_line}
use Rattle.cfsim.specs.Answer.{Answer, answer, with_netlist, netlist_of_file}
use Rattle.cfsim.specs.Clauses.{IsAnswered, IsNamedBy, IsNextFile, GainsMessage}

pub if_some : {T : Type 0} (o : Option T) (P : T → Type 0) → ((x : T) → P x) → IfSome o P
if_some None P h = tt
if_some (Some x) P h = h x

pub if_some_map : {T : Type 0} (o : Option T) (P Q : T → Type 0) → ((x : T) → P x → Q x) → IfSome o P → IfSome o Q
if_some_map None P Q h p = tt
if_some_map (Some x) P Q h p = h x p

-- ---- the answer

pub answer_no_call : (texts : List (List ℕ)) (files : List ℕ → Option (List ℕ)) → call_of texts ≡ None → answer texts files ≡ record { status = 2; out = []; err = usage_line }
unfolding answer
answer_no_call texts files none = rw none refl

pub answer_call : (texts : List (List ℕ)) (files : List ℕ → Option (List ℕ)) (call : Call) → call_of texts ≡ Some call → answer texts files ≡ with_netlist files call (netlist_of_file (files call.netlist))
unfolding answer
answer_call texts files call is = rw is refl

pub no_call_from : (o : Option Call) → is_some o ≡ false → o ≡ None
no_call_from None e = refl
no_call_from (Some call) e = absurd cc

abbrev pub first_two : List (List ℕ) → Call
first_two texts = record { netlist = get_or texts 0 []; vectors = get_or texts 1 [] }

call_if : (b : Bool) (call : Call) → is_some (if b then Some call else None) ≡ true → (if b then Some call else None) ≡ Some call
call_if true call e = refl
call_if false call e = absurd cc

pub call_from : (texts : List (List ℕ)) → is_some (call_of texts) ≡ true → call_of texts ≡ Some (first_two texts)
call_from [] e = absurd cc
call_from (a ∷ []) e = absurd cc
call_from (a ∷ b ∷ []) e = call_if (names_file a && names_file b) (record { netlist = a; vectors = b }) e
call_from (a ∷ b ∷ d ∷ ds) e = absurd cc

pub same_call : (a a' b b' : List ℕ) → a ≡ a' → b ≡ b' → ◌≡◌ {A = Call} (record { netlist = a; vectors = b }) (record { netlist = a'; vectors = b' })
same_call a a' b b' p q = rw (p, q) refl

-- ---- statuses

pub answered_not_8 : (r : ℕ) → IsAnswered r → r ≢ 8
answered_not_8 r (inl e) f = absurd (omega arith)
answered_not_8 r (inr w) f = absurd (omega (arith, w.1))

pub answered_not_1 : (r : ℕ) → IsAnswered r → r ≢ 1
answered_not_1 r (inl e) f = absurd (omega arith)
answered_not_1 r (inr w) f = absurd (omega (arith, w.0))

pub status_of : (s r : ℕ) → (r ≡ s) ⊎ (r ≡ 8) → r ≢ 8 → r ≡ s
status_of s r (inl e) ne = e
status_of s r (inr e) ne = absurd (ne e)

-- the statuses of a report
abbrev pub IsReported : ℕ → Type 0
IsReported s = (s ≡ 1) ⊎ ((s ≡ 0) ⊎ ((3 ≤ s) × (s ≤ 6)))

pub reported_not_8 : (s : ℕ) → IsReported s → s ≢ 8
reported_not_8 s (inl e) f = absurd (omega arith)
reported_not_8 s (inr (inl e)) f = absurd (omega arith)
reported_not_8 s (inr (inr w)) f = absurd (omega (arith, w.1))

pub rest_not_1 : (s : ℕ) → (s ≡ 0) ⊎ ((3 ≤ s) × (s ≤ 6)) → s ≢ 1
rest_not_1 s (inl e) f = absurd (omega arith)
rest_not_1 s (inr w) f = absurd (omega (arith, w.0))

pub not_both : {P Q : Type 0} → (P → ⊥) → (Q → ⊥) → P ⊎ Q → ⊥
not_both p q (inl x) = p x
not_both p q (inr x) = q x

-- ---- texts

pub prefix_of_nothing : (old new : Option (List ℕ)) (text : List ℕ) → GainsPrefix old new [] → GainsPrefix old new text
prefix_of_nothing old new text w = (0, subst (λ (t : List ℕ). Gains old new t) (take-nil w.0) w.1)

-- ---- the clauses, where the report r is written for texts and told files

abbrev pub Files : Type 0
Files = List ℕ → Option (List ℕ)

-- where no call on the shelf failed the report is the answer, and its writing gave its status, or 8
pub record IsWritten (told : Option Files) (texts : List (List ℕ)) (r : Answer) (result : ℕ) : Type 0 where
  pub reported : (r.status ≡ 1) ⊎ (r.status ≢ 1)
  pub answered : r.status ≢ 1 → IfSome told (λ files. r ≡ answer texts files)
  pub cases : (result ≡ r.status) ⊎ (result ≡ 8)

status_is : (told : Option Files) (texts : List (List ℕ)) (r : Answer) (result : ℕ) → IsWritten told texts r result → IsAnswered result → result ≡ r.status
status_is told texts r result w answered = status_of r.status result w.cases (answered_not_8 result answered)

not_unread : (told : Option Files) (texts : List (List ℕ)) (r : Answer) (result : ℕ) → IsWritten told texts r result → IsAnswered result → r.status ≢ 1
not_unread told texts r result w answered e = answered_not_1 result answered (status_is told texts r result w answered ∙ e)

pub answered_status : (told : Option Files) (texts : List (List ℕ)) (r : Answer) (result : ℕ) → IsWritten told texts r result → IsAnswered result → IfSome told (λ files. result ≡ (answer texts files).status)
answered_status told texts r result w answered =
    if_some_map told (λ files. r ≡ answer texts files) (λ files. result ≡ (answer texts files).status) (λ files is. status_is told texts r result w answered ∙ ap (λ (a : Answer). a.status) is) (w.answered (not_unread told texts r result w answered))

pub answered_text : (told : Option Files) (texts : List (List ℕ)) (r : Answer) (result : ℕ) (pick : Answer → List ℕ) (old new : Option (List ℕ)) → IsWritten told texts r result → (result ≢ 8 → Gains old new (pick r)) → IsAnswered result
    → IfSome told (λ files. Gains old new (pick (answer texts files)))
answered_text told texts r result pick old new w gains answered =
    if_some_map told (λ files. r ≡ answer texts files) (λ files. Gains old new (pick (answer texts files)))
    (λ files is. subst (λ (a : Answer). Gains old new (pick a)) is (gains (answered_not_8 result answered))) (w.answered (not_unread told texts r result w answered))

pub unwritten_out : (told : Option Files) (texts : List (List ℕ)) (r : Answer) (result : ℕ) (old new : Option (List ℕ)) → IsWritten told texts r result → (r.status ≡ 1 → r.out ≡ []) → GainsPrefix old new r.out
    → IfSome told (λ files. GainsPrefix old new (answer texts files).out)
unwritten_out told texts r result old new w none gains =
    elim w.reported [
      | inl one ↦ if_some told (λ files. GainsPrefix old new (answer texts files).out) (λ files. prefix_of_nothing old new (answer texts files).out (subst (λ (t : List ℕ). GainsPrefix old new t) (none one) gains))
      | inr ne ↦ if_some_map told (λ files. r ≡ answer texts files) (λ files. GainsPrefix old new (answer texts files).out) (λ files is. subst (λ (a : Answer). GainsPrefix old new a.out) is gains) (w.answered ne)
    ]

pub unwritten_err : (told : Option Files) (texts : List (List ℕ)) (r : Answer) (result : ℕ) (blamed : List ℕ) (old new : Option (List ℕ)) → IsWritten told texts r result → (r.status ≡ 1 → r.err ≡ cannot_read_line blamed) → GainsPrefix old new r.err
    → IfSome told (λ files. GainsMessage old new (answer texts files).err blamed)
unwritten_err told texts r result blamed old new w line gains =
    elim w.reported [
      | inl one ↦ if_some told (λ files. GainsMessage old new (answer texts files).err blamed) (λ files. inr (inl (subst (λ (t : List ℕ). GainsPrefix old new t) (line one) gains)))
      | inr ne ↦ if_some_map told (λ files. r ≡ answer texts files) (λ files. GainsMessage old new (answer texts files).err blamed) (λ files is. inl (subst (λ (a : Answer). GainsPrefix old new a.err) is gains)) (w.answered ne)
    ]

-- where no count rose, the status is the answer's
module _ (told : Option Files) (texts : List (List ℕ)) (r : Answer) (result : ℕ) (Shelf Out Err : Type 0) (w : IsWritten told texts r result) (unread : r.status ≡ 1 → Shelf) (unwritten : result ≡ 8 → Out ⊎ Err) where
  result_is : (files : Files) → r ≡ answer texts files → (Out → ⊥) → (Err → ⊥) → result ≡ (answer texts files).status
  result_is files is out err =
      elim w.cases [
        | inl e ↦ e ∙ ap (λ (a : Answer). a.status) is
        | inr e ↦ absurd (not_both out err (unwritten e))
      ]

  pub exact : IfSome told (λ files. (Shelf → ⊥) → (Out → ⊥) → (Err → ⊥) → (result ≡ (answer texts files).status) ⊎ (result ≡ 7))
  exact =
      elim w.reported [
        | inl one ↦ if_some told (λ files. (Shelf → ⊥) → (Out → ⊥) → (Err → ⊥) → (result ≡ (answer texts files).status) ⊎ (result ≡ 7)) (λ files shelf out err. absurd (shelf (unread one)))
        | inr ne ↦
            if_some_map told (λ files. r ≡ answer texts files) (λ files. (Shelf → ⊥) → (Out → ⊥) → (Err → ⊥) → (result ≡ (answer texts files).status) ⊎ (result ≡ 7))
            (λ files is shelf out err. inl (result_is files is out err)) (w.answered ne)
      ]

  pub complete : IfSome told (λ files. (answer texts files).status ≡ 0 → (Shelf → ⊥) → (Out → ⊥) → (Err → ⊥) → (result ≡ 0) ⊎ (result ≡ 7))
  complete =
      elim w.reported [
        | inl one ↦ if_some told (λ files. (answer texts files).status ≡ 0 → (Shelf → ⊥) → (Out → ⊥) → (Err → ⊥) → (result ≡ 0) ⊎ (result ≡ 7)) (λ files is_zero shelf out err. absurd (shelf (unread one)))
        | inr ne ↦
            if_some_map told (λ files. r ≡ answer texts files) (λ files. (answer texts files).status ≡ 0 → (Shelf → ⊥) → (Out → ⊥) → (Err → ⊥) → (result ≡ 0) ⊎ (result ≡ 7))
            (λ files is is_zero shelf out err. inl (result_is files is out err ∙ is_zero)) (w.answered ne)
      ]

-- ---- what a file that can't be read shows

pub status_one : (s r : ℕ) → (r ≡ s) ⊎ (r ≡ 8) → r ≡ 1 → s ≡ 1
status_one s r (inl e) one = sym e ∙ one
status_one s r (inr e) one = absurd (omega arith)

pub unread_named : (texts : List (List ℕ)) (call : Call) (blamed : List ℕ) (P : Type 0) → call_of texts ≡ Some call → (blamed ≡ call.netlist) ⊎ ((blamed ≡ call.vectors) × P) → IsNamedBy texts blamed
unread_named texts call blamed P is (inl e) = (call, is, inl e)
unread_named texts call blamed P is (inr w) = (call, is, inr w.0)

pub unread_next : (told : Option Files) (texts : List (List ℕ)) (call : Call) (blamed : List ℕ) → call_of texts ≡ Some call → (blamed ≡ call.netlist) ⊎ ((blamed ≡ call.vectors) × IfSome told (λ files. IsOk (netlist_of_file (files call.netlist))))
    → IfSome told (λ files. IsNextFile texts files blamed)
unread_next told texts call blamed is (inl e) = if_some told (λ files. IsNextFile texts files blamed) (λ files. (call, is, inl e))
unread_next told texts call blamed is (inr w) =
    if_some_map told (λ files. IsOk (netlist_of_file (files call.netlist))) (λ files. IsNextFile texts files blamed) (λ files ok. (call, is, inr (w.0, ok))) w.1

pub reported_cases : (s : ℕ) → IsReported s → (s ≡ 1) ⊎ (s ≢ 1)
reported_cases s (inl e) = inl e
reported_cases s (inr rest) = inr (rest_not_1 s rest)

pub call_length : (texts : List (List ℕ)) → is_some (call_of texts) ≡ true → length texts ≡ 2
call_length [] e = absurd cc
call_length (a ∷ []) e = absurd cc
call_length (a ∷ b ∷ []) e = refl
call_length (a ∷ b ∷ d ∷ ds) e = absurd cc

pub one_not_8 : (r : ℕ) → r ≡ 1 → r ≢ 8
one_not_8 r e f = absurd (omega arith)
