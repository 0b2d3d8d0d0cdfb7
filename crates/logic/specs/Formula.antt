-- Formulas (document 01: what wordings stand for), their size, their seats and places, the house's seats among them,
-- plain ones, and holders.
use Rattle.std.specs.Prelude.{Bool, true, false, ◌&&◌, ◌||◌, ℕ, ◌+◌, ◌≤◌, eqb}
use Rattle.std.proofs.Math.Option.{Option, none, some}
use Rattle.logic.specs.declared.Interval.{Interval}
use Rattle.logic.specs.Choice.{pick}

-- In document 01's order: an atom of a predicate and a session, 1, ⊗, &, ⊕, ⊸, ⊃, !, @, ⟨K⟩, ⊇. Document 02, ask 7: an
-- atom may carry a holder (`n`), 0 for the one that is bound; and ∀, "for every holder" (`q`).
pub data Formula : Type 0 where
  atom : ℕ → ℕ → Option ℕ → Formula
  one : Formula
  tensor with plus lolli implies : Formula → Formula → Formula
  bang : Formula → Formula
  at : Formula → Interval → Formula
  says : ℕ → Formula → Formula
  superset : Interval → Interval → Formula
  for_every : Formula → Formula

-- "Size: 1 plus the sizes of the parts, a part used twice counted twice"
unfoldable pub size : Formula → ℕ
size (atom p t o) = 1
size one = 1
size (tensor a b) = 1 + (size a + size b)
size (with a b) = 1 + (size a + size b)
size (plus a b) = 1 + (size a + size b)
size (lolli a b) = 1 + (size a + size b)
size (implies a b) = 1 + (size a + size b)
size (bang a) = 1 + size a
size (at a i) = 1 + size a
size (says k a) = 1 + size a
size (superset i j) = 1
size (for_every a) = 1 + size a

-- "Predicate 1 is seat, 2 place; others are free."
abbrev pub seat : ℕ
seat = 1

abbrev pub place : ℕ
place = 2

abbrev pub bit : Bool → ℕ
bit true = 1
bit false = 0

-- The atoms of predicate q and session s in a formula. "Every part of a wording counts as often as it stands there."
unfoldable pub count : ℕ → ℕ → Formula → ℕ
count q s (atom p t o) = bit (eqb p q && eqb t s)
count q s one = 0
count q s (tensor a b) = count q s a + count q s b
count q s (with a b) = count q s a + count q s b
count q s (plus a b) = count q s a + count q s b
count q s (lolli a b) = count q s a + count q s b
count q s (implies a b) = count q s a + count q s b
count q s (bang a) = count q s a
count q s (at a i) = count q s a
count q s (says k a) = count q s a
count q s (superset i j) = 0
count q s (for_every a) = count q s a

abbrev pub seats : ℕ → Formula → ℕ
seats s a = count seat s a

abbrev pub places : ℕ → Formula → ℕ
places s a = count place s a

-- Document 02: "Open now counts only seats whose nearest ⟨K⟩ above them is principal 1". Principal 1 is the house.
abbrev pub house : ℕ
house = 1

-- Those seats of session s in a formula; `under` says whether the nearest ⟨K⟩ above the formula itself is the house.
unfoldable pub house_under : Bool → ℕ → Formula → ℕ
house_under under s (atom p t o) = bit (under && (eqb p seat && eqb t s))
house_under under s one = 0
house_under under s (tensor a b) = house_under under s a + house_under under s b
house_under under s (with a b) = house_under under s a + house_under under s b
house_under under s (plus a b) = house_under under s a + house_under under s b
house_under under s (lolli a b) = house_under under s a + house_under under s b
house_under under s (implies a b) = house_under under s a + house_under under s b
house_under under s (bang a) = house_under under s a
house_under under s (at a i) = house_under under s a
house_under under s (says k a) = house_under (eqb k house) s a
house_under under s (superset i j) = 0
house_under under s (for_every a) = house_under under s a

-- "bare ones too, go to shut": above the whole formula of a credential stands nothing
abbrev pub house_seats : ℕ → Formula → ℕ
house_seats s a = house_under false s a

-- "Plain: only `a`, `t`, `s`." Document 02: `q` never stands "in a plain wording, though `n` may".
unfoldable pub plain : Formula → Bool
plain (atom p t o) = true
plain one = false
plain (tensor a b) = plain a && plain b
plain (with a b) = false
plain (plus a b) = false
plain (lolli a b) = false
plain (implies a b) = false
plain (bang a) = false
plain (at a i) = false
plain (says k a) = plain a
plain (superset i j) = false
plain (for_every a) = false

-- Holders (document 02, ask 7)

-- "each place to carry a holder number, 1 to 65,535"
abbrev pub last_holder : ℕ
last_holder = 65535

pub record IsHolder (h : ℕ) : Type 0 where
  pub least : 1 ≤ h
  pub most : h ≤ last_holder

-- the holder h for holder 0
unfoldable pub put_in : ℕ → Option ℕ → Option ℕ
put_in h none = none
put_in h (some k) = some (pick (eqb k 0) h k)

-- A formula after the holder h is put in, for holder 0 wherever that stands, but not inside another ∀: "Inside `q`, and
-- only there, holder 0 stands for the holder bound".
unfoldable pub with_holder : ℕ → Formula → Formula
with_holder h (atom p t o) = atom p t (put_in h o)
with_holder h one = one
with_holder h (tensor a b) = tensor (with_holder h a) (with_holder h b)
with_holder h (with a b) = with (with_holder h a) (with_holder h b)
with_holder h (plus a b) = plus (with_holder h a) (with_holder h b)
with_holder h (lolli a b) = lolli (with_holder h a) (with_holder h b)
with_holder h (implies a b) = implies (with_holder h a) (with_holder h b)
with_holder h (bang a) = bang (with_holder h a)
with_holder h (at a i) = at (with_holder h a) i
with_holder h (says k a) = says k (with_holder h a)
with_holder h (superset i j) = superset i j
with_holder h (for_every a) = for_every a

-- the atom's holder is the bound one
abbrev pub is_bound : Option ℕ → Bool
is_bound none = false
is_bound (some k) = eqb k 0

-- 53: the formula "has holder 0 outside `q`"
unfoldable pub unbound : Formula → Bool
unbound (atom p t o) = is_bound o
unbound one = false
unbound (tensor a b) = unbound a || unbound b
unbound (with a b) = unbound a || unbound b
unbound (plus a b) = unbound a || unbound b
unbound (lolli a b) = unbound a || unbound b
unbound (implies a b) = unbound a || unbound b
unbound (bang a) = unbound a
unbound (at a i) = unbound a
unbound (says k a) = unbound a
unbound (superset i j) = false
unbound (for_every a) = false

-- a `q` stands in the formula
unfoldable pub quantified : Formula → Bool
quantified (atom p t o) = false
quantified one = false
quantified (tensor a b) = quantified a || quantified b
quantified (with a b) = quantified a || quantified b
quantified (plus a b) = quantified a || quantified b
quantified (lolli a b) = quantified a || quantified b
quantified (implies a b) = quantified a || quantified b
quantified (bang a) = quantified a
quantified (at a i) = quantified a
quantified (says k a) = quantified a
quantified (superset i j) = false
quantified (for_every a) = true
