-- The text of a store's ledger, in the parts that are written one after another.
use Rattle.std.specs.Prelude.{◌≡◌, List, [], ◌++◌, map, ℕ}
use Rattle.logic.specs.Choice.{pick}
use Rattle.request.specs.Write.{joined, ended_lines, line_fields}
use Rattle.ledger.specs.declared.Answer.{Answer}
use Rattle.ledger.specs.Ledger.{Ledger}
use Rattle.ledger.specs.Calls.{told}
use Rattle.snapshot.specs.Snapshot.{title_of, title_fields, credential_fields}
use Rattle.snapshot.specs.Reopen.{close}
use Rattle.store_cells.specs.Layout.{line_count, row_count, row_at, credential_at, gap_at, entry_at}
use Rattle.store.specs.Tab.{tab, present}
use Rattle.store.specs.Store.{line_of, ledger_of}
use Rattle.text_write.specs.Put.{ended}

-- the first line
unfoldable pub title_text : List ℕ → List ℕ
title_text l = ended 10 (title_fields (title_of (ledger_of l)))

-- the line of a formula row, and those of the first n
unfoldable pub formula_text : List ℕ → ℕ → List ℕ
formula_text l i = ended 10 (line_fields (line_of (row_at l i)))

unfoldable pub formula_texts : List ℕ → ℕ → List ℕ
formula_texts l n = ended_lines (map (λ x. joined (line_fields x)) (tab n (λ i. line_of (row_at l i))))

abbrev pub formula_lines : List ℕ → List ℕ
formula_lines l = formula_texts l (line_count l)

-- the line of a credential row, none of a gap, and those of the first n
unfoldable pub row_text : List ℕ → ℕ → List ℕ
row_text l i = pick (gap_at l i) [] (ended 10 (credential_fields (credential_at l i)))

unfoldable pub row_texts : List ℕ → ℕ → List ℕ
row_texts l n = ended_lines (map (λ c. joined (credential_fields c)) (present (tab n (entry_at l))))

abbrev pub row_lines : List ℕ → List ℕ
row_lines l = row_texts l (row_count l)

-- all lines after the first
abbrev pub body_lines : List ℕ → List ℕ
body_lines l = formula_lines l ++ row_lines l

-- What closing leaves: o, o' are the lent buffer before and after.
pub record ClosedAs (t : Ledger) (o : List ℕ) (a : Answer) (o' : List ℕ) : Type 0 where
  pub answer : told a ≡ told (close t o).answer
  pub buffer : o' ≡ (close t o).buffer
