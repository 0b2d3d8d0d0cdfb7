-- What the functions leave: one law for each way out.
use mathlib.Core.Path.{◌≡◌, refl, sym, ap, subst, ◌∙◌}
use mathlib.Core.List.{List, [], ◌∷◌, ◌++◌, append_assoc, append-nil}
use mathlib.Core.Bool.{true, false}
use Prim.Native.Nat.{ℕ, ◌+◌, ◌*◌, ◌<◌}
use native.Mathlib.Omega.{arith}
use native.Mathlib.Numerals.{add-one}
use lib.ListN.{length, take, drop, length-append}
use lib.Seq.{take_all, take-suc, length-take-le}
use Rattle.std.proofs.lemmas.List.{take-append-drop}
use Rattle.ledger.specs.Ledger.{empty}
use Rattle.store.specs.Store.{ledger_of, Good}
use Rattle.ledger.specs.Calls.{Reply, told, call, answers}
use Rattle.stream_print.specs.Printed.{line, printed, longest, Room}
use Rattle.stream_print.proofs.Writing.{wrote_as}
use Rattle.stream.specs.declared.Kiosk.{Kiosk}
use Rattle.stream_sheets.specs.Sheets.{split, one_more, empty_line, line_begins, most}
use Rattle.stream_sheets.specs.Ends.{EndsAt}
use Rattle.stream_sheets.specs.Keeping.{Kept}
use Rattle.stream_sheets.proofs.Splits.{cut}
use Rattle.stream.specs.Stream.{of_parts, Said, Ready, Stands, Took, TookSome, Ended}
use Rattle.stream.proofs.Streams.{Silent, stands_kept, stands_ended, said_text}

-- The answer to a sheet

pub said_as : {l b b' o : List ℕ} {at : ℕ} {l' o' : List ℕ} {r : ℕ} → call (ledger_of l) b ≡ call (ledger_of l) b'
    → Said l b o at l' o' r → Said l b' o at l' o' r
said_as e m = record {
  good = m.good;
  ledger = m.ledger ∙ ap (λ (d : Reply). d.ledger) e;
  wrote = wrote_as (ap (λ (d : Reply). line (told d.answer)) e) m.wrote;
  short = m.short;
}

-- none is held
pub said_whole : {l x o : List ℕ} (k : List ℕ) {at h : ℕ} {l' o' : List ℕ} {r : ℕ} → h ≡ 0
    → Said l x o at l' o' r → Said l (take h k ++ x) o at l' o' r
said_whole {l} {x} k e m = said_as (ap (λ (h : ℕ). call (ledger_of l) (take h k ++ x)) (sym e)) m

-- the last bytes are put after those that are held
pub said_kept : {l k x o : List ℕ} {at h : ℕ} {k' : List ℕ} {h' : ℕ} {l' o' : List ℕ} {r : ℕ} → Kept k h x k' h'
    → Said l (take h' k') o at l' o' r → Said l (take h k ++ x) o at l' o' r
said_kept {l} {k} {x} {h = h} m s = said_as (ap (call (ledger_of l)) m.bytes ∙ cut (ledger_of l) (take h k ++ x)) s

-- The first bytes of a piece

module _ {k : Kiosk} (x : List ℕ) (d : Ready k (length x)) (some : 0 < length x) where
  pub took_open : {k' : Kiosk} → empty_line k.place.fresh x ≡ false → k'.place.fresh ≡ line_begins k.place.fresh x
      → Kept k.begun.now k.place.filled x k'.begun.now k'.place.filled → Silent k k' → TookSome k x k' (length x)
  took_open {k'} n f m q = record {
    some = some;
    inside = omega arith;
    took = subst (λ (z : List ℕ). Took k z k') (sym (take_all (length x) x (omega arith))) (record {
      ready = record {
        good = subst Good (sym q.store) d.good;
        begun = m.long;
        filled = m.few;
        text = omega (arith, d.text, ap length q.text, q.waits);
      };
      short = omega (arith, q.waits);
      stands = λ w b s. stands_kept s x n f m q;
    });
  }

  pub took_ended : {k' : Kiosk} {e : ℕ} → length k'.begun.now ≡ most → EndsAt x k.place.fresh e
      → k'.place.filled ≡ 0 → k'.place.fresh ≡ true
      → Said k.store.now (take k.place.filled k.begun.now ++ take e x) k.text.now k.place.text k'.store.now k'.text.now
      k'.place.text
      → TookSome k x k' (e + 1)
  took_ended {k'} {e} q n h f m = record {
    some = omega arith;
    inside = omega (arith, n.inside);
    took = record {
      ready = record {
        good = m.good;
        begun = q;
        filled = omega arith;
        text = omega (arith, d.text, m.short, m.wrote.long);
      };
      short = omega (arith, m.short, length-take-le (e + 1) x (omega (arith, n.inside)));
      stands = λ w b s.
          subst
          (λ (z : List ℕ). Stands w k' (b ++ z))
          (ap (λ (y : ℕ). take e x ++ (y ∷ [])) (sym n.ten) ∙ sym (rw (add-one, take-suc x e 0 n.inside)))
          (stands_ended s (take e x) n.none n.lines h f m);
    };
  }

-- Bytes after bytes

pub ready_for : {k : Kiosk} (m n : ℕ) → Ready k m → Room k.text.now k.place.text (longest * n) → Ready k n
ready_for m n d h = record { good = d.good; begun = d.begun; filled = d.filled; text = h }

pub took_none : {k : Kiosk} {n : ℕ} → Ready k n → Took k [] k
took_none {k} {n} d = record {
  ready = ready_for n 0 d (omega (arith, d.text));
  short = omega arith;
  stands = λ w b s. subst (Stands w k) (sym (append-nil b)) s;
}

pub took_then : {k k₁ k₂ : Kiosk} {x y : List ℕ} → Took k x k₁ → Took k₁ y k₂ → Took k (x ++ y) k₂
took_then {k₂ = k₂} {x = x} {y = y} u v = record {
  ready = v.ready;
  short = omega (arith, u.short, v.short, length-append x y);
  stands = λ w b s. subst (Stands w k₂) (append_assoc b x y) (v.stands w (b ++ x) (u.stands w b s));
}

-- of the bytes p those before r are taken
pub record Taking (k : Kiosk) (p r : List ℕ) (k' : Kiosk) : Type 0 where
  pub before : List ℕ
  pub whole : before ++ r ≡ p
  pub took : Took k before k'

pub taking_next : {k k₁ k₂ : Kiosk} {p : List ℕ} (r r' : List ℕ) {n : ℕ} → Taking k p r k₁ → TookSome k₁ r k₂ n
    → r' ≡ drop n r → Taking k p r' k₂
taking_next r r' {n} t v e = record {
  before = t.before ++ take n r;
  whole =
      append_assoc t.before (take n r) r'
      ∙ ap (λ (z : List ℕ). t.before ++ z)
      (ap (λ (z : List ℕ). take n r ++ z) e ∙ take-append-drop n r)
      ∙ t.whole;
  took = took_then t.took v.took;
}

pub taken_all : {k k' : Kiosk} {p r : List ℕ} → length r ≡ 0 → Taking k p r k' → Took k p k'
taken_all {k} {k'} {p} {r} e t =
    subst (λ (z : List ℕ). Took k z k')
    (sym (append-nil t.before) ∙ ap (λ (z : List ℕ). t.before ++ z) (sym (empty_list r e)) ∙ t.whole) t.took
  where
    empty_list : (z : List ℕ) → length z ≡ 0 → z ≡ []
    empty_list [] q = refl
    empty_list (y ∷ z) q = absurd (omega arith)

-- The end

nothing_begun : (b : List ℕ) → take most b ≡ [] → one_more b ≡ []
nothing_begun [] e = refl
nothing_begun (x ∷ b) e = absurd (omega (arith, ap length e))

some_begun : (b : List ℕ) → (take most b ≡ [] → ⊥) → one_more b ≡ b ∷ []
some_begun [] f = absurd (f refl)
some_begun (x ∷ b) f = refl

module _ {k : Kiosk} (d : Ready k 1) where
  pub ended_none : k.place.filled ≡ 0 → Ended k k.text.now k.place.text
  ended_none e = record {
    text = omega (arith, d.text);
    whole = λ w b s.
        let q : take most (split b).begun ≡ [] = sym s.begun ∙ ap (λ (h : ℕ). take h k.begun.now) e in
        s.text ∙ ap (λ (z : List (List ℕ)). printed (answers empty z))
        (sym (append-nil (split b).ended)
        ∙ ap (λ (z : List (List ℕ)). (split b).ended ++ z) (sym (nothing_begun (split b).begun q)));
  }

  pub ended_one : {l' o' : List ℕ} {r : ℕ} → (k.place.filled ≡ 0 → ⊥)
      → Said k.store.now (take k.place.filled k.begun.now) k.text.now k.place.text l' o' r → Ended k o' r
  ended_one f m = record {
    text = omega (arith, d.text, m.short, m.wrote.long);
    whole = λ w b s.
        let n = length-take-le k.place.filled k.begun.now (omega (arith, d.filled, d.begun)) in
        let q = some_begun (split b).begun (λ z. f (sym n ∙ ap length (s.begun ∙ z))) in
        said_text s []
        (said_as (ap (call (ledger_of k.store.now)) (sym (append-nil (take k.place.filled k.begun.now)))) m)
        ∙ ap (λ (z : List ℕ). printed (answers empty ((split b).ended ++ (z ∷ [])))) (append-nil (split b).begun)
        ∙ ap (λ (z : List (List ℕ)). printed (answers empty ((split b).ended ++ z))) (sym q);
  }

-- A kiosk of the same parts holds the same.

abbrev pub parts : Kiosk → Kiosk
parts k = of_parts k.store.now k.begun.now k.text.now k.place

pub ready_parts : {k : Kiosk} {n : ℕ} → Ready k n → Ready (parts k) n
ready_parts d = record { good = d.good; begun = d.begun; filled = d.filled; text = d.text }

stands_parts : {w : List ℕ} {k : Kiosk} {b : List ℕ} → Stands w k b → Stands w (parts k) b
stands_parts s = record { ledger = s.ledger; begun = s.begun; fresh = s.fresh; text = s.text }

stands_whole : {w : List ℕ} {k : Kiosk} {b : List ℕ} → Stands w (parts k) b → Stands w k b
stands_whole s = record { ledger = s.ledger; begun = s.begun; fresh = s.fresh; text = s.text }

took_parts : {k k' : Kiosk} {x : List ℕ} → Took k x k' → Took (parts k) x (parts k')
took_parts {k} {k'} m = record {
  ready = ready_parts {k = k'} m.ready;
  short = m.short;
  stands = λ w b s. stands_parts (m.stands w b (stands_whole {k = k} s));
}

-- what was lent has now what the kiosk's fields had in the end
pub took_lent : {k k' : Kiosk} {x b l' b' o' : List ℕ} → Took k x k' → k.begun.now ≡ b → l' ≡ k'.store.now
    → b' ≡ k'.begun.now → o' ≡ k'.text.now
    → Took (of_parts k.store.now b k.text.now k.place) x (of_parts l' b' o' k'.place)
took_lent {k} {k'} {x} {b} {l'} {b'} {o'} m e f g h =
    subst (λ (z : List ℕ). Took (of_parts k.store.now z k.text.now k.place) x (of_parts l' b' o' k'.place)) e
    (subst (λ (z : List ℕ). Took (parts k) x (of_parts z b' o' k'.place)) (sym f)
    (subst (λ (z : List ℕ). Took (parts k) x (of_parts k'.store.now z o' k'.place)) (sym g)
    (subst (λ (z : List ℕ). Took (parts k) x (of_parts k'.store.now k'.begun.now z k'.place)) (sym h) (took_parts m))))

pub ended_whole : {k : Kiosk} {o' : List ℕ} {r : ℕ} → Ended (parts k) o' r → Ended k o' r
ended_whole m = record { text = m.text; whole = λ w b s. m.whole w b (stands_parts s) }
