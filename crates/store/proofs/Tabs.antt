-- Laws of `tab` and `present`.
use Prim.Native.Nat.{ℕ, zero, suc, ◌+◌, ◌<◌, ◌≤◌}
use mathlib.Core.Path.{◌≡◌, refl, ap, ◌∙◌}
use mathlib.Core.List.{List, [], ◌∷◌, ◌++◌}
use mathlib.Core.Option.{Option, none, some}
use native.Mathlib.Omega.{arith}
use native.Mathlib.Numerals.{add-one}
use native.Mathlib.Nat.{le_of_suc-le-suc, not-suc-le-zero}
use lib.ListN.{length, get_or}
use Rattle.logic.specs.Multiset.{Every, sum}
use Rattle.ledger.specs.Ledger.{cons_some}
use Rattle.store.specs.Tab.{tab, present}

module _ {A : Type 0} where
  pub length_tab : (n : ℕ) (f : ℕ → A) → length (tab n f) ≡ n
  unfolding tab
  length_tab zero f = refl
  length_tab (suc n) f = ap suc (length_tab n (λ k. f (suc k)))

  pub get_d_tab : (n : ℕ) (f : ℕ → A) (i : ℕ) (d : A) → i < n → get_or (tab n f) i d ≡ f i
  unfolding tab
  get_d_tab zero f i d h = absurd (not-suc-le-zero h)
  get_d_tab (suc n) f zero d h = refl
  get_d_tab (suc n) f (suc i) d h = get_d_tab n (λ k. f (suc k)) i d (le_of_suc-le-suc h)

  pub get_d_past : (n : ℕ) (f : ℕ → A) (i : ℕ) (d : A) → n ≤ i → get_or (tab n f) i d ≡ d
  unfolding tab
  get_d_past zero f i d h = refl
  get_d_past (suc n) f zero d h = absurd (not-suc-le-zero h)
  get_d_past (suc n) f (suc i) d h = get_d_past n (λ k. f (suc k)) i d (le_of_suc-le-suc h)

  -- two that agree below the count are the same list
  pub tab_ext : (n : ℕ) (f g : ℕ → A) → ((i : ℕ) → i < n → f i ≡ g i) → tab n f ≡ tab n g
  unfolding tab
  tab_ext zero f g h = refl
  tab_ext (suc n) f g h =
      cc (h zero (omega arith), tab_ext n (λ k. f (suc k)) (λ k. g (suc k)) (λ i q. h (suc i) (omega arith)))

  -- the last one stands at the end
  pub tab_snoc : (n : ℕ) (f : ℕ → A) → tab (suc n) f ≡ tab n f ++ (f n ∷ [])
  unfolding tab
  tab_snoc zero f = refl
  tab_snoc (suc n) f = ap {B = List A} (λ r. f zero ∷ r) (tab_snoc n (λ k. f (suc k)))

  -- one more: the rows below n stand, and c is row n
  pub tab_append : (n : ℕ) (f g : ℕ → A) (c : A) → ((i : ℕ) → i < n → g i ≡ f i) → g n ≡ c
      → tab (n + 1) g ≡ tab n f ++ (c ∷ [])
  tab_append n f g c same last = rw (add-one, tab_snoc) (cc (tab_ext n g f same))

  -- what every row has
  pub every_tab : (P : A → Type 0) (n : ℕ) (f : ℕ → A) → Every P (tab n f) → (i : ℕ) → i < n → P (f i)
  unfolding tab
  every_tab P zero f h i q = absurd (not-suc-le-zero q)
  every_tab P (suc n) f h zero q = h.0
  every_tab P (suc n) f h (suc i) q = every_tab P n (λ k. f (suc k)) h.1 i (le_of_suc-le-suc q)

-- What is there of a list.
module _ {A : Type 0} where
  pub every_present : (P : A → Type 0) (n : ℕ) (f : ℕ → Option A)
      → ((i : ℕ) (a : A) → i < n → f i ≡ some a → P a) → Every P (present (tab n f))
  unfolding tab present
  every_present P zero f h = tt
  every_present P (suc n) f h =
      go (f zero) refl (every_present P n (λ k. f (suc k)) (λ i a q e. h (suc i) a (omega arith) e))
    where
      go : (o : Option A) → f zero ≡ o → Every P (present (tab n (λ k. f (suc k))))
          → Every P (cons_some o (present (tab n (λ k. f (suc k)))))
      go none e rest = rest
      go (some a) e rest = (h zero a (omega arith) e, rest)

  present_snoc : (os : List (Option A)) (o : Option A)
      → present (os ++ (o ∷ [])) ≡ present os ++ cons_some o []
  unfolding present
  present_snoc [] o = refl
  present_snoc (none ∷ os) o = present_snoc os o
  present_snoc (some x ∷ os) o = ap {B = List A} (λ r. x ∷ r) (present_snoc os o)

  pub present_next : (n : ℕ) (f : ℕ → Option A) → present (tab (n + 1) f) ≡ present (tab n f) ++ cons_some (f n) []
  present_next n f = rw add-one (ap present (tab_snoc n f) ∙ present_snoc (tab n f) (f n))

  -- where nothing is missing
  pub present_all : (n : ℕ) (f : ℕ → Option A) (g : ℕ → A) → ((i : ℕ) → i < n → f i ≡ some (g i))
      → present (tab n f) ≡ tab n g
  unfolding tab present
  present_all zero f g h = refl
  present_all (suc n) f g h =
      rw (h zero (omega arith)) (ap {B = List A} (λ r. g zero ∷ r)
      (present_all n (λ k. f (suc k)) (λ k. g (suc k)) (λ i q. h (suc i) (omega arith))))

  -- a sum over what is there, where f sees nothing in the gaps
  module _ (f : A → ℕ) where
    sum_present : (o : Option A) (xs : List A) → sum f (cons_some o xs) ≡ sum f (cons_some o []) + sum f xs
    unfolding sum
    sum_present none xs = omega arith
    sum_present (some x) xs = omega arith

    pub present_sum : (n : ℕ) (e : ℕ → Option A) (g : ℕ → A) → ((i : ℕ) → sum f (cons_some (e i) []) ≡ f (g i))
        → sum f (present (tab n e)) ≡ sum f (tab n g)
    unfolding tab present sum
    present_sum zero e g h = refl
    present_sum (suc n) e g h =
        sum_present (e zero) _
        ∙ omega (arith, h zero, present_sum n (λ k. e (suc k)) (λ k. g (suc k)) (λ i. h (suc i)))
