-- Calls after calls, and what the state between two pieces stands for after bytes.
use mathlib.Core.Path.{◌≡◌, refl, sym, ap, ◌∙◌}
use mathlib.Core.List.{List, [], ◌∷◌, ◌++◌, append_assoc, append-nil}
use mathlib.Core.Bool.{Bool, true, false}
use Prim.Native.Nat.{ℕ}
use lib.ListN.{take}
use Rattle.ledger.specs.declared.Answer.{Answer}
use Rattle.ledger.specs.Ledger.{Ledger, empty}
use Rattle.ledger.specs.Calls.{Reply, told, call, after, answers}
use Rattle.store.specs.Store.{ledger_of}
use Rattle.stream_print.specs.Printed.{line, printed}
use Rattle.stream_sheets.specs.Sheets.{Split, start, split_from, split, empty_line, line_begins, most}
use Rattle.stream_sheets.specs.Keeping.{Kept}
use Rattle.stream_sheets.proofs.Splits.{split_append, cut, keep_cut, run, closes}
use Rattle.stream.specs.declared.Kiosk.{Kiosk}
use Rattle.stream.specs.Stream.{Said, Stands}

after_snoc : (t : Ledger) (bs : List (List ℕ)) (b : List ℕ) → after t (bs ++ (b ∷ [])) ≡ (call (after t bs) b).ledger
unfolding after
after_snoc t [] b = refl
after_snoc t (x ∷ bs) b = after_snoc (call t x).ledger bs b

answers_snoc : (t : Ledger) (bs : List (List ℕ)) (b : List ℕ)
    → answers t (bs ++ (b ∷ [])) ≡ answers t bs ++ ((call (after t bs) b).answer ∷ [])
unfolding answers after
answers_snoc t [] b = refl
answers_snoc t (x ∷ bs) b =
    ap (λ (more : List Answer). (call t x).answer ∷ more) (answers_snoc (call t x).ledger bs b)

printed_snoc : (done : List Answer) (a : Answer) → printed (done ++ (a ∷ [])) ≡ printed done ++ line (told a)
unfolding printed
printed_snoc [] a = append-nil (line (told a))
printed_snoc (x ∷ done) a =
    ap (λ (t : List ℕ). line (told x) ++ t) (printed_snoc done a) ∙ sym (append_assoc (line (told x)) (printed done) _)

-- and so with further bytes
cut_front : (t : Ledger) (b x : List ℕ) → call t (take most b ++ x) ≡ call t (b ++ x)
cut_front t b x = sym (cut t (take most b ++ x)) ∙ ap (call t) (keep_cut b x) ∙ cut t (b ++ x)

-- nothing is answered: the till, the text and what waits of it stay
pub record Silent (k k' : Kiosk) : Type 0 where
  pub store : k'.store.now ≡ k.store.now
  pub text : k'.text.now ≡ k.text.now
  pub waits : k'.place.text ≡ k.place.text

module _ {w : List ℕ} {k : Kiosk} {b : List ℕ} (s : Stands w k b) (x : List ℕ) where
  pub stands_kept : {k' : Kiosk} → empty_line k.place.fresh x ≡ false → k'.place.fresh ≡ line_begins k.place.fresh x
      → Kept k.begun.now k.place.filled x k'.begun.now k'.place.filled → Silent k k' → Stands w k' (b ++ x)
  stands_kept {k'} e f m q =
      let g = ap (λ (z : Bool). empty_line z x) (sym s.fresh) ∙ e in
      let r = split_append start b x ∙ run (split b).ended (split b).begun (split b).fresh x g in
      record {
        ledger = ap ledger_of q.store ∙ s.ledger ∙ ap (λ (z : Split). after empty z.ended) (sym r);
        begun =
            m.bytes ∙ ap (λ (z : List ℕ). take most (z ++ x)) s.begun ∙ keep_cut (split b).begun x
            ∙ ap (λ (z : Split). take most z.begun) (sym r);
        fresh = f ∙ ap (λ (z : Bool). line_begins z x) s.fresh ∙ ap (λ (z : Split). z.fresh) (sym r);
        text =
            ap (λ (n : ℕ). w ++ take n k'.text.now) q.waits
            ∙ ap (λ (o : List ℕ). w ++ take k.place.text o) q.text
            ∙ s.text ∙ ap (λ (z : Split). printed (answers empty z.ended)) (sym r);
      }

  -- the answer to what is held with the bytes x is the answer to the sheet that has begun with them
  same_call : call (ledger_of k.store.now) (take k.place.filled k.begun.now ++ x)
      ≡ call (after empty (split b).ended) ((split b).begun ++ x)
  same_call =
      ap (λ (t : Ledger). call t (take k.place.filled k.begun.now ++ x)) s.ledger
      ∙ ap (λ (z : List ℕ). call (after empty (split b).ended) (z ++ x)) s.begun
      ∙ cut_front (after empty (split b).ended) (split b).begun x

  module _ {l' o' : List ℕ} {r : ℕ}
      (m : Said k.store.now (take k.place.filled k.begun.now ++ x) k.text.now k.place.text l' o' r) where
    said_ledger : ledger_of l' ≡ after empty ((split b).ended ++ (((split b).begun ++ x) ∷ []))
    said_ledger =
        m.ledger ∙ ap (λ (d : Reply). d.ledger) same_call
        ∙ sym (after_snoc empty (split b).ended ((split b).begun ++ x))

    pub said_text : w ++ take r o' ≡ printed (answers empty ((split b).ended ++ (((split b).begun ++ x) ∷ [])))
    said_text =
        let a = (call (after empty (split b).ended) ((split b).begun ++ x)).answer in
        let held : List ℕ = take k.place.filled k.begun.now ++ x in
        ap (λ (z : List ℕ). w ++ z) m.wrote.text
        ∙ sym (append_assoc w (take k.place.text k.text.now) _)
        ∙ ap (λ (z : List ℕ). z ++ line (told (call (ledger_of k.store.now) held).answer)) s.text
        ∙ ap (λ (d : Reply). printed (answers empty (split b).ended) ++ line (told d.answer)) same_call
        ∙ sym (printed_snoc (answers empty (split b).ended) a)
        ∙ ap printed (sym (answers_snoc empty (split b).ended ((split b).begun ++ x)))

  pub stands_ended : {k' : Kiosk} → empty_line k.place.fresh x ≡ false → line_begins k.place.fresh x ≡ true
      → k'.place.filled ≡ 0 → k'.place.fresh ≡ true
      → Said k.store.now (take k.place.filled k.begun.now ++ x) k.text.now k.place.text k'.store.now k'.text.now
      k'.place.text
      → Stands w k' (b ++ (x ++ (10 ∷ [])))
  unfolding split_from
  stands_ended {k'} e f n g m =
      let q =
      split_append start b (x ++ (10 ∷ []))
      ∙ closes (split b).ended (split b).begun (split b).fresh x []
      (ap (λ (z : Bool). empty_line z x) (sym s.fresh) ∙ e)
      (ap (λ (z : Bool). line_begins z x) (sym s.fresh) ∙ f) in
      record {
        ledger = said_ledger m ∙ ap (λ (z : Split). after empty z.ended) (sym q);
        begun = ap (λ (h : ℕ). take h k'.begun.now) n ∙ ap (λ (z : Split). take most z.begun) (sym q);
        fresh = g ∙ ap (λ (z : Split). z.fresh) (sym q);
        text = said_text m ∙ ap (λ (z : Split). printed (answers empty z.ended)) (sym q);
      }
