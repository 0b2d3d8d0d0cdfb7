-- Lines passed over one by one, and what they say together.
use mathlib.Core.Path.{◌≡◌, refl, sym, ap, ◌∙◌}
use mathlib.Core.List.{List, ◌∷◌}
use mathlib.Core.Option.{Option, none, some}
use mathlib.Core.Bool.{Bool, true, false, ◌||◌}
use Prim.Native.Nat.{ℕ, zero, suc, ◌+◌, ◌-◌, ◌≤◌, ◌<◌}
use native.Mathlib.Omega.{arith}
use lib.Dec.{ltb}
use borrow.Author.Tests.{lt-ltb, le-ltb}
use Rattle.logic.specs.Choice.{pick}
use Rattle.request.specs.Text.{and_then}
use Rattle.request.specs.Reader.{Reader}
use Rattle.request.specs.Request.{Line}
use Rattle.request.specs.Read.{formula_line}
use Rattle.request.proofs.Gives.{Gives, nothing, just, gives_then}
use Rattle.ledger.specs.declared.Credential.{Credential}
use Rattle.ledger.specs.Checks.{any_of}
use Rattle.ledger.proofs.Answers.{some_none, some_inj}
use Rattle.snapshot.specs.Snapshot.{holder_line, credential_line, rising}
use Rattle.read_formulas.specs.Line.{read_line}
use Rattle.read_rest.specs.LinesRead.{read_lines}
use Rattle.read_fields.proofs.Then.{then_same, then_none, then_pair, by_test}
use Rattle.text_read.specs.TextForm.{lines_past, rising_past, gives, holders_in}

module _ {A : Type 0} (r : Reader A) where
  pub lines_past_holds : (n : ℕ) (b : List ℕ) → lines_past n r b ≡ and_then (read_lines n r b) (λ p. some p.1)
  unfolding lines_past read_lines and_then
  lines_past_holds zero b = refl
  lines_past_holds (suc n) b =
      then_same (read_line r b) (λ p. lines_past_holds n p.1)
      ∙ sym (then_pair (read_line r b) (λ p. read_lines n r p.1) (λ p q. (p.0 ∷ q.0, q.1)) (λ z. some z.1))

  pub past_start : (n : ℕ) (b : List ℕ) → lines_past n r b ≡ lines_past (n - 0) r b
  past_start n b = let q : n - 0 ≡ n = omega arith in rw q

  -- k of n lines have been passed
  module _ (n k : ℕ) (b : List ℕ) where
    pub past_end : n ≤ k → lines_past (n - k) r b ≡ some b
    unfolding lines_past
    past_end h = let q : n - k ≡ 0 = omega arith in rw q

    module _ (h : k < n) where
      pub past_turn : {a : A} {c : List ℕ} → read_line r b ≡ some (a, c)
          → lines_past (n - k) r b ≡ lines_past (n - (k + 1)) r c
      unfolding lines_past and_then
      past_turn e = let q : n - k ≡ suc (n - (k + 1)) = omega arith in rw (q, lines_past, e, and_then)

      pub past_broken : read_line r b ≡ none → lines_past (n - k) r b ≡ none
      unfolding lines_past and_then
      past_broken e = let q : n - k ≡ suc (n - (k + 1)) = omega arith in rw (q, lines_past, e, and_then)

-- The same of credentials whose serials rise

pub rising_past_holds : (lo n : ℕ) (b : List ℕ) → rising_past lo n b
    ≡ and_then (read_lines n credential_line b) (λ p. pick (rising lo p.0) (some p.1) none)
unfolding rising_past read_lines rising and_then
rising_past_holds lo zero b = refl
rising_past_holds lo (suc n) b =
    then_same (read_line credential_line b) (λ p. by_test (ltb lo p.0.serial)
    (λ e. rw e (rising_past_holds p.0.serial n p.1))
    (λ e. rw e (sym (then_none (read_lines n credential_line p.1) (λ q. refl)))))
    ∙ sym (then_pair (read_line credential_line b) (λ p. read_lines n credential_line p.1)
    (λ p q. (p.0 ∷ q.0, q.1)) (λ z. pick (rising lo z.0) (some z.1) none))

pub rising_start : (lo n : ℕ) (b : List ℕ) → rising_past lo n b ≡ rising_past lo (n - 0) b
rising_start lo n b = let q : n - 0 ≡ n = omega arith in rw q

module _ (lo n k : ℕ) (b : List ℕ) where
  pub rising_end : n ≤ k → rising_past lo (n - k) b ≡ some b
  unfolding rising_past
  rising_end h = let q : n - k ≡ 0 = omega arith in rw q

  module _ (h : k < n) where
    pub rising_broken : read_line credential_line b ≡ none → rising_past lo (n - k) b ≡ none
    unfolding rising_past and_then
    rising_broken e = let q : n - k ≡ suc (n - (k + 1)) = omega arith in rw (q, rising_past, e, and_then)

    module _ {a : Credential} {c : List ℕ} (e : read_line credential_line b ≡ some (a, c)) where
      pub rising_turn : lo < a.serial → rising_past lo (n - k) b ≡ rising_past a.serial (n - (k + 1)) c
      unfolding rising_past and_then
      rising_turn l =
          let q : n - k ≡ suc (n - (k + 1)) = omega arith in
          rw (q, rising_past, e, and_then, lt-ltb _ _ l)

      pub rising_falls : a.serial ≤ lo → rising_past lo (n - k) b ≡ none
      unfolding rising_past and_then
      rising_falls l =
          let q : n - k ≡ suc (n - (k + 1)) = omega arith in
          rw (q, rising_past, e, and_then, le-ltb _ _ l)

-- Whether `n` or `q` is among the lines

-- of the lines that were read
abbrev AsRead : ℕ → List ℕ → Type 0
AsRead n b = Gives (λ p. holders_in n b ≡ any_of holder_line p.0) (read_lines n formula_line b)

read_more : (n : ℕ) → ((b : List ℕ) → AsRead n b) → (o : Option (Line × List ℕ))
    → Gives {A = List Line × List ℕ}
    (λ p. gives (λ q. holder_line q.0 || holders_in n q.1) o ≡ any_of holder_line p.0)
    (and_then o (λ p. and_then (read_lines n formula_line p.1) (λ q. some (p.0 ∷ q.0, q.1))))
unfolding any_of and_then
read_more n f none = nothing
read_more n f (some p) = gives_then (f p.1) (λ q e. just (ap (λ (x : Bool). holder_line p.0 || x) e))

pub holders_read : (n : ℕ) (b : List ℕ) → AsRead n b
unfolding holders_in read_lines any_of
holders_read zero b = just refl
holders_read (suc n) b = read_more n (holders_read n) (read_line formula_line b)

pub holders_start : (n : ℕ) (b : List ℕ) → holders_in n b ≡ holders_in (n - 0) b
holders_start n b = let q : n - 0 ≡ n = omega arith in rw q

-- k of n lines have been passed
module _ (n k : ℕ) (b : List ℕ) where
  pub holders_end : n ≤ k → holders_in (n - k) b ≡ false
  unfolding holders_in
  holders_end h = let q : n - k ≡ 0 = omega arith in rw q

  module _ (h : k < n) where
    pub holders_broken : read_line formula_line b ≡ none → holders_in (n - k) b ≡ false
    unfolding holders_in
    holders_broken e = let q : n - k ≡ suc (n - (k + 1)) = omega arith in rw (q, holders_in, e)

    module _ {l : Line} {c : List ℕ} (e : read_line formula_line b ≡ some (l, c)) where
      pub holders_here : holder_line l ≡ true → holders_in (n - k) b ≡ true
      unfolding holders_in
      holders_here t = let q : n - k ≡ suc (n - (k + 1)) = omega arith in rw (q, holders_in, e, t)

      pub holders_turn : holder_line l ≡ false → holders_in (n - k) b ≡ holders_in (n - (k + 1)) c
      unfolding holders_in
      holders_turn t = let q : n - k ≡ suc (n - (k + 1)) = omega arith in rw (q, holders_in, e, t)

-- What was passed

pub none_past : {A : Type 0} (o : Option (A × List ℕ)) → and_then o (λ p. some p.1) ≡ none → o ≡ none
unfolding and_then
none_past none e = refl
none_past (some p) e = absurd (some_none e)

pub record Passed {A : Type 0} (o : Option (A × List ℕ)) (c : List ℕ) : Type 0 where
  pub values : A
  pub are : o ≡ some (values, c)

pub some_past : {A : Type 0} (o : Option (A × List ℕ)) {c : List ℕ} → and_then o (λ p. some p.1) ≡ some c → Passed o c
unfolding and_then
some_past none e = absurd (some_none (sym e))
some_past (some p) {c} e = record { values = p.0; are = ap (λ (x : List ℕ). some (p.0, x)) (some_inj e) }

-- the serials that were passed rise
pub record Risen (lo : ℕ) (o : Option (List Credential × List ℕ)) (c : List ℕ) : Type 0 where
  pub live : List Credential
  pub are : o ≡ some (live, c)
  pub rises : rising lo live ≡ true

pub some_risen : (lo : ℕ) (o : Option (List Credential × List ℕ)) {c : List ℕ}
    → and_then o (λ p. pick (rising lo p.0) (some p.1) none) ≡ some c → Risen lo o c
unfolding and_then
some_risen lo none e = absurd (some_none (sym e))
some_risen lo (some p) {c} e = by_test (rising lo p.0)
    (λ t. let d : ◌≡◌ {A = Option (List ℕ)} (some p.1) (some c) = rw t at e in
    record { live = p.0; are = ap (λ (x : List ℕ). some (p.0, x)) (some_inj d); rises = t })
    (λ t. let d : ◌≡◌ {A = Option (List ℕ)} none (some c) = rw t at e in absurd (some_none (sym d)))

pub none_risen : (lo : ℕ) (p : List Credential × List ℕ) → pick (rising lo p.0) (some p.1) none ≡ none
    → rising lo p.0 ≡ false
none_risen lo p e = by_test (rising lo p.0)
    (λ t. let d : ◌≡◌ {A = Option (List ℕ)} (some p.1) none = rw t at e in absurd (some_none d)) (λ t. t)

-- whatever was read
pub whatever : {A : Type 0} (o : Option A) → Gives (λ a. Unit {0}) o
whatever none = nothing
whatever (some a) = just tt
