-- What was closed opens as the till that it was, and what was opened closes as the text that it was.
use mathlib.Core.Path.{◌≡◌, refl, sym, ap, subst, ◌∙◌}
use mathlib.Core.List.{List, [], ◌∷◌, ◌++◌}
use Prim.Native.Nat.{ℕ, ◌≤◌}
use lib.ListN.{length, take}
use Rattle.ledger.specs.Ledger.{Ledger}
use Rattle.ledger.specs.Calls.{told, after}
use Rattle.ledger.specs.Statements.{IsAccepted}
use Rattle.store.specs.Store.{ledger_of}
use Rattle.snapshot.specs.Snapshot.{text, Opens}
use Rattle.snapshot.specs.Reopen.{reopen, close}
use Rattle.snapshot.specs.Statements.{OpenedAs}
use Rattle.snapshot.proofs.Lawful.{writes_back}
use Rattle.snapshot.proofs.Reopen.{open_answers, close_answers, closes_and_opens}
use Rattle.entry.specs.Entered.{numbers}
use Rattle.entry.specs.Played.{Made}
use Rattle.entry.specs.Saved.{Closed, Reopened}
use Rattle.entry.proofs.Lists.{played_is, is_ok}
use Rattle.entry_text.specs.Statements.{SavedOpens, WrittenAgain, OpenedSaves}

-- closing a block that stands for t into a buffer with room
module _ (t : Ledger) (l o n o' : List ℕ) (at : ledger_of l ≡ t) (c : Closed l o n o')
    (h : length (text t) ≤ length o) where
  count : n ≡ 1 ∷ length (text t) ∷ 0 ∷ 0 ∷ []
  count =
      c.answer ∙ ap (λ (u : Ledger). numbers (told (close u o).answer)) at
      ∙ ap numbers ((close_answers t o).room h).answer

  buffer : o' ≡ (close t o).buffer
  buffer = c.buffer ∙ ap (λ (u : Ledger). (close u o).buffer) at

pub saved_opens : SavedOpens
saved_opens start l l₁ o n o' m n' m' bs ns g p c h r =
    let t = after start bs in
    let at = (played_is start l l₁ bs ns g p).0 in
    let z : OpenedAs (text t) t (reopen (ledger_of m) (take (length (text t)) o')) =
    subst (λ (x : List ℕ). OpenedAs (text t) t (reopen (ledger_of m) (take (length (text t)) x)))
    (sym (buffer t l₁ o n o' at c h))
    (closes_and_opens t (ledger_of m) (record { start = start; begins = g.begins; calls = bs; gives = refl }) o h) in
    record {
      written = count t l₁ o n o' at c h;
      alike = r.answer ∙ ap numbers z.answer ∙ sym (count t l₁ o n o' at c h);
      made = subst (Made m') z.ledger (r.made (subst IsAccepted (sym z.answer) tt));
    }

pub opened_saves : OpenedSaves
opened_saves l b n l' o n' o' k r q c h =
    let a = is_ok (told (reopen (ledger_of l) b).answer) k (sym r.answer ∙ q) in
    go (reopen (ledger_of l) b).ledger (r.made a) ((open_answers (ledger_of l) b).opens a)
  where
    go : (t : Ledger) → Made l' t → Opens b t → WrittenAgain b n n' o'
    go t g x =
        let back = writes_back b t x in
        let room : length (text t) ≤ length o = rw back h in
        let at = g.stands.ledger in
        let first = r.answer ∙ ap numbers ((open_answers (ledger_of l) b).answers t x).answer in
        record {
          told = first;
          alike = count t l' o n' o' at c room ∙ ap (λ (x : List ℕ). 1 ∷ length x ∷ 0 ∷ 0 ∷ []) back ∙ sym first;
          written =
              ap (λ (x : List ℕ). take (length x) o') (sym back)
              ∙ ap (take (length (text t))) (buffer t l' o n' o' at c room) ∙ ((close_answers t o).room room).written
              ∙ back;
        }
