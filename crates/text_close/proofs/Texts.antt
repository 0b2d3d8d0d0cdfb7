-- The text of a store's ledger, line by line.
use mathlib.Core.Path.{◌≡◌, refl, sym, ap, ap₂, ◌∙◌}
use mathlib.Core.List.{List, [], ◌∷◌, ◌++◌, map, append_assoc, map-append}
use mathlib.Core.Bool.{Bool, true, false}
use mathlib.Core.Option.{none, some}
use Prim.Native.Nat.{ℕ, zero, suc, ◌+◌, ◌≤◌, ◌<◌}
use native.Mathlib.Numerals.{add-one}
use native.Mathlib.Omega.{arith}
use native.Mathlib.Decide.{dec_lt}
use lib.Dec.{ltb}
use lib.ListN.{length, length-append, take-append-drop}
use borrow.Author.Tests.{ltb-true, ltb-false}
use Rattle.logic.specs.Choice.{pick}
use Rattle.request.specs.Request.{Line}
use Rattle.request.specs.Write.{joined, ended_lines, line_fields}
use Rattle.steps.specs.declared.Row.{Row}
use Rattle.ledger.specs.declared.Credential.{Credential}
use Rattle.ledger.specs.declared.Answer.TheVariants.{Accepted, Refused}
use Rattle.ledger.specs.Ledger.{Ledger, cons_some}
use Rattle.ledger.specs.Calls.{told}
use Rattle.snapshot.specs.declared.Title.{Title}
use Rattle.snapshot.specs.Snapshot.{title_of, title_fields, credential_fields, texts_in, text}
use Rattle.snapshot.specs.Reopen.{close}
use Rattle.snapshot.proofs.Reopen.{close_answers}
use Rattle.store_cells.specs.Layout.{row_at, credential_at, gap_at, entry_at}
use Rattle.store.specs.Tab.{tab, present}
use Rattle.store.specs.Store.{line_of, ledger_of}
use Rattle.store.proofs.Tabs.{tab_append, present_next}
use Rattle.call_checks.specs.declared.Verdict.{Verdict}
use Rattle.call_checks.specs.declared.Verdict.TheVariants.{Passed, Failed}
use Rattle.call_checks.specs.Verdicts.{Tells}
use Rattle.call_checks.proofs.Verdicts.{by_verdict}
use Rattle.text_write.specs.Put.{Put, Measured, ended}
use Rattle.text_write.proofs.Puts.{Parts, wrote_as}
use Rattle.text_close.specs.Lines.{title_text, formula_text, formula_texts, row_text, row_texts}
use Rattle.text_close.specs.Lines.{body_lines, ClosedAs}

-- lines before others
ended_append : (xs ys : List (List ℕ)) → ended_lines (xs ++ ys) ≡ ended_lines xs ++ ended_lines ys
unfolding ended_lines
ended_append [] ys = refl
ended_append (x ∷ xs) ys =
    ap (λ (t : List ℕ). x ++ (10 ∷ t)) (ended_append xs ys)
    ∙ sym (append_assoc x (10 ∷ ended_lines xs) (ended_lines ys))

texts_append : {A : Type 0} (f : A → List ℕ) (xs ys : List A)
    → ended_lines (map f (xs ++ ys)) ≡ ended_lines (map f xs) ++ ended_lines (map f ys)
texts_append f xs ys = ap ended_lines (map-append f xs ys) ∙ ended_append (map f xs) (map f ys)

-- f has the first lines, g each of them
pub record Grows (f g : ℕ → List ℕ) : Type 0 where
  pub none : f 0 ≡ []
  pub next : (i : ℕ) → f (i + 1) ≡ f i ++ g i

module _ (l : List ℕ) where
  pub formula_lines_holds : Grows (formula_texts l) (formula_text l)
  unfolding formula_texts formula_text tab ended_lines ended
  formula_lines_holds = record {
    none = refl;
    next = λ i.
        let line : ℕ → Line = λ k. line_of (row_at l k) in
        ap (λ (ls : List Line). ended_lines (map (λ x. joined (line_fields x)) ls))
        (tab_append i line line (line i) (λ k h. refl) refl)
        ∙ texts_append (λ x. joined (line_fields x)) (tab i line) (line i ∷ []);
  }

  pub row_lines_holds : Grows (row_texts l) (row_text l)
  unfolding row_texts row_text entry_at tab present ended_lines ended
  row_lines_holds = record {
    none = refl;
    next = λ i.
        ap (λ (cs : List Credential). ended_lines (map (λ c. joined (credential_fields c)) cs))
        (present_next i (entry_at l))
        ∙ texts_append (λ c. joined (credential_fields c)) (present (tab i (entry_at l))) (cons_some (entry_at l i) [])
        ∙ ap (λ (t : List ℕ). row_texts l i ++ t) (go i (gap_at l i));
  }
    where
      go : (i : ℕ) (b : Bool)
          → ended_lines (map (λ c. joined (credential_fields c))
          (cons_some (pick b none (some (credential_at l i))) []))
          ≡ pick b [] (joined (credential_fields (credential_at l i)) ++ (10 ∷ []))
      go i true = refl
      go i false = refl

  -- the whole
  pub text_parts : title_text l ++ body_lines l ≡ text (ledger_of l)
  unfolding text texts_in title_text formula_texts row_texts ended ended_lines ledger_of
  text_parts =
      let t = joined (title_fields (title_of (ledger_of l))) in
      append_assoc t (10 ∷ []) _
      ∙ ap (λ (u : List ℕ). t ++ (10 ∷ u))
      (sym (ended_append (map (λ x. joined (line_fields x)) (ledger_of l).lines)
      (map (λ c. joined (credential_fields c)) (ledger_of l).live)))

  -- what the writers of lines write
  pub title_as : {t : Title} → t ≡ title_of (ledger_of l) → ended 10 (title_fields t) ≡ title_text l
  unfolding title_text
  title_as e = ap (λ (x : Title). ended 10 (title_fields x)) e

  pub formula_as : {r : Row} (i : ℕ) → r ≡ row_at l i → ended 10 (line_fields (line_of r)) ≡ formula_text l i
  unfolding formula_text
  formula_as i e = ap (λ (r : Row). ended 10 (line_fields (line_of r))) e

  pub gap_as : (i : ℕ) → gap_at l i ≡ true → [] ≡ row_text l i
  unfolding row_text
  gap_as i e = rw e refl

  pub credential_as : {c : Credential} (i : ℕ) → gap_at l i ≡ false → c ≡ credential_at l i
      → ended 10 (credential_fields c) ≡ row_text l i
  unfolding row_text
  credential_as i e q = rw (e, q) refl

module _ {f g : ℕ → List ℕ} (q : Grows f g) where
  pub measured_next : (i : ℕ) {s t a b : ℕ} → Measured (f i) s a → Measured (g i) t b
      → Measured (f (i + 1)) (s + t) (a + b)
  measured_next i v w = record {
    exact = omega (arith, v.exact, w.exact, ap length (q.next i), length-append (f i) (g i));
    small = omega (arith, v.small, w.small);
  }

  grows : (m n : ℕ) → m ≤ n → length (f m) ≤ length (f n)
  grows m zero h = let e : m ≡ 0 = omega arith in rw e (omega arith)
  grows m (suc n) h = go (dec_lt m (suc n)) (grows m n)
    where
      go : Dec (m < suc n) → (m ≤ n → length (f m) ≤ length (f n)) → length (f m) ≤ length (f (suc n))
      go (yes p) ih =
          let e = ap length (ap f (sym (add-one n)) ∙ q.next n) ∙ length-append (f n) (g n) in
          omega (arith, e, ih (omega arith))
      go (no p) ih = let e : m ≡ suc n = omega arith in rw e (omega arith)

  -- room for the first lines and the next one
  pub with_next_holds : (o : List ℕ) (i n : ℕ) → i < n → length (f n) ≤ length o → Parts o (f (i + 1)) (f i) (g i)
  with_next_holds o i n p h = record { joins = sym (q.next i); fits = omega (arith, grows (i + 1) n (omega arith)) }

pub measured_none : {x : List ℕ} {m : ℕ} → x ≡ [] → Measured x m 0
measured_none e = record { exact = ap length (sym e); small = omega arith }

pub wrote_none : {o x : List ℕ} → x ≡ [] → Put o x o 0
wrote_none {o} e = wrote_as (sym e) (record { wrote = refl; long = refl; stays = refl })

pub measured_within : {x : List ℕ} {s t a : ℕ} → s ≤ t → Measured x s a → Measured x t a
measured_within h m = record { exact = m.exact; small = omega (arith, m.small) }

-- the three parts
pub measured_sum : {x y z t : List ℕ} {a b c : ℕ} → x ++ (y ++ z) ≡ t → Measured x 40 a → Measured y 18000 b
    → Measured z 278528 c → Measured t 296568 (a + b + c)
measured_sum {x} {y} {z} e u v w = record {
  exact = omega (arith, u.exact, v.exact, w.exact, ap length e, length-append x (y ++ z), length-append y z);
  small = omega (arith, u.small, v.small, w.small);
}

-- Closing

-- by the verdict of 52, where n is the length of the text
module _ (t : Ledger) (o : List ℕ) {n : ℕ} {v : Verdict} (e : n ≡ length (text t))
    (test : Tells 52 v (ltb (length o) n)) where
  pub closed_short : v ≡ Failed → ClosedAs t o (Refused 52 0) o
  closed_short f =
      let x = (close_answers t o).short (omega (arith, ltb-true (length o) n (by_verdict test f))) in
      record { answer = sym x.answer; buffer = sym x.buffer }

  pub has_room : v ≡ Passed → length (text t) ≤ length o
  has_room f = omega (arith, ltb-false (length o) n (by_verdict test f))

  pub closed_written : {o' : List ℕ} {r : ℕ} → v ≡ Passed → Put o (text t) o' r → ClosedAs t o (Accepted n) o'
  closed_written f w =
      let x = (close_answers t o).room (has_room f) in
      record {
        answer = ap (λ (k : ℕ). told (Accepted k)) e ∙ sym x.answer;
        buffer = w.stays ∙ sym (ap₂ ◌++◌ x.written x.past)
            ∙ take-append-drop (length (text t)) (close t o).buffer;
      }
