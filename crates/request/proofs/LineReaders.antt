-- Formula lines, step lines and hold lines: each reader reads just what is in range, from its fields.
use mathlib.Core.Path.{◌≡◌, refl}
use mathlib.Core.List.{[], ◌∷◌, ◌++◌}
use mathlib.Core.Bool.{true}
use Prim.Native.Nat.{ℕ}
use Prim.Native.String.{String}
use Rattle.logic.specs.declared.Interval.{Interval}
use Rattle.logic.specs.Counts.{all_of}
use Rattle.request.specs.Range.{serial, label}
use Rattle.request.specs.Text.{bytes, same_bytes}
use Rattle.request.specs.Reader.{named, choose}
use Rattle.request.specs.Request.{Line, Step}
use Rattle.request.specs.Read.{interval, part, parts, formula_line, formula_line_with, labelled, step_line, hold_line}
use Rattle.request.specs.Write.{digits, minutes, line_fields, step_fields, hold_fields}
use Rattle.request.specs.InRange.{◌in_range◌, IntervalInRange, Parts, LineInRange, StepInRange}
use Rattle.request.proofs.Readers.{Texts, Reads, Only, Exact, done, ◌also◌, fits, only_return, only_then}
use Rattle.request.proofs.Readers.{only_after, reads_return, reads_then, reads_last, choose_only, word_reads}
use Rattle.request.proofs.Readers.{one_reads, one_only, two_reads, two_only}
use Rattle.request.proofs.Fields.{NumberExact}
use Rattle.request.proofs.Fields.{predicate_exact, principal_exact, label_exact, formula_exact, session_exact}
use Rattle.request.proofs.Fields.{serial_exact, label_set_exact, interval_exact, holder_exact, named_holder_exact}

-- Formula lines: at most 66 bytes

parts_read : (t : String) (make : ℕ → ℕ → Line) (i j : ℕ) → Parts i j → fits t 8 66 ≡ true
    → ((us : Texts) → formula_line (bytes t ∷ us) ≡ parts make us)
    → Reads 48 formula_line (make i j) (bytes t ∷ digits i ∷ digits j ∷ []) 66
unfolding parts
parts_read t make i j h e f = two_reads formula_exact formula_exact make t i j h.left h.right e f

formula_line_reads : (l : Line) → LineInRange l → Reads 48 formula_line l (line_fields l) 66
unfolding formula_line_with line_fields part parts bytes same_bytes choose named all_of
formula_line_reads (Line.atom p s) h =
    two_reads predicate_exact session_exact Line.atom "a" p s h.predicate h.session refl (λ us. refl)
formula_line_reads Line.one h = word_reads "o" refl (λ us. refl) (reads_return 48 Line.one)
formula_line_reads (Line.tensor i j) h = parts_read "t" Line.tensor i j h refl (λ us. refl)
formula_line_reads (Line.with i j) h = parts_read "w" Line.with i j h refl (λ us. refl)
formula_line_reads (Line.plus i j) h = parts_read "p" Line.plus i j h refl (λ us. refl)
formula_line_reads (Line.lolli i j) h = parts_read "l" Line.lolli i j h refl (λ us. refl)
formula_line_reads (Line.implies i j) h = parts_read "u" Line.implies i j h refl (λ us. refl)
formula_line_reads (Line.bang i) h = one_reads formula_exact Line.bang "b" i h refl (λ us. refl)
formula_line_reads (Line.at i w) h =
    two_reads formula_exact interval_exact Line.at "h" i w h.part h.interval refl (λ us. refl)
formula_line_reads (Line.says k i) h =
    two_reads principal_exact formula_exact Line.says "s" k i h.principal h.part refl (λ us. refl)
formula_line_reads (Line.superset v w) h =
    two_reads interval_exact interval_exact Line.superset "g" v w h.first h.second refl (λ us. refl)
formula_line_reads (Line.named p s k) h =
    word_reads "n" refl (λ us. refl) (reads_then _ (predicate_exact.reads p h.predicate)
    (reads_then _ (session_exact.reads s h.session) (reads_last _ (holder_exact.reads k h.holder))))
formula_line_reads (Line.for_every i) h = one_reads formula_exact Line.for_every "q" i h refl (λ us. refl)

parts_only : {before : Texts} (make : ℕ → ℕ → Line)
    → ((i j : ℕ) → Parts i j → LineInRange (make i j) × (line_fields (make i j) ≡ before ++ (digits i ∷ digits j ∷ [])))
    → Only LineInRange line_fields before (parts make)
unfolding parts
parts_only make f = two_only formula_exact formula_exact make (λ i j h k. f i j (record { left = h; right = k }))

pub formula_line_exact : Exact 48 formula_line LineInRange line_fields 66
unfolding formula_line_with line_fields part parts minutes
formula_line_exact = record {
  reads = formula_line_reads;
  only = choose_only (
      two_only predicate_exact session_exact Line.atom (λ p s h k. (record { predicate = h; session = k }, refl))
      also only_return Line.one tt refl
      also parts_only Line.tensor (λ i j h. (h, refl))
      also parts_only Line.with (λ i j h. (h, refl))
      also parts_only Line.plus (λ i j h. (h, refl))
      also parts_only Line.lolli (λ i j h. (h, refl))
      also parts_only Line.implies (λ i j h. (h, refl))
      also one_only formula_exact Line.bang (λ i h. (h, refl))
      also two_only formula_exact interval_exact Line.at (λ i w h k. (record { part = h; interval = k }, refl))
      also two_only principal_exact formula_exact Line.says (λ k i h j. (record { principal = h; part = j }, refl))
      also two_only interval_exact interval_exact Line.superset (λ v w h k. (record { first = h; second = k }, refl))
      also only_then _ predicate_exact.only (λ p h. two_only session_exact holder_exact (Line.named p)
      (λ s k i j. (record { predicate = h; session = i; holder = j }, refl)))
      also one_only formula_exact Line.for_every (λ i h. (h, refl))
      also done);
}

-- Step lines: at most 55 bytes

-- `ul` reads as its label and its interval do
ul_reads : NumberExact label 3 → Exact 48 interval IntervalInRange minutes 32 → (l : ℕ) (j : Interval)
    → StepInRange (Step.ul l j) → Reads 48 step_line (Step.ul l j) (step_fields (Step.ul l j)) 55
unfolding step_line step_fields labelled bytes same_bytes choose named all_of
ul_reads labels intervals l j h = two_reads labels intervals Step.ul "ul" l j h.label h.interval refl (λ us. refl)

step_line_reads : (s : Step) → StepInRange s → Reads 48 step_line s (step_fields s) 55
unfolding step_line step_fields labelled bytes same_bytes choose named all_of
step_line_reads (Step.ax l) h = one_reads label_exact Step.ax "ax" l h refl (λ us. refl)
step_line_reads (Step.cp l) h = one_reads label_exact Step.cp "cp" l h refl (λ us. refl)
step_line_reads (Step.tr s) h = one_reads label_set_exact Step.tr "tr" s h refl (λ us. refl)
step_line_reads (Step.tl l) h = one_reads label_exact Step.tl "tl" l h refl (λ us. refl)
step_line_reads Step.or h = word_reads "or" refl (λ us. refl) (reads_return 48 Step.or)
step_line_reads (Step.ol l) h = one_reads label_exact Step.ol "ol" l h refl (λ us. refl)
step_line_reads Step.wr h = word_reads "wr" refl (λ us. refl) (reads_return 48 Step.wr)
step_line_reads (Step.w1 l) h = one_reads label_exact Step.w1 "w1" l h refl (λ us. refl)
step_line_reads (Step.w2 l) h = one_reads label_exact Step.w2 "w2" l h refl (λ us. refl)
step_line_reads Step.p1 h = word_reads "p1" refl (λ us. refl) (reads_return 48 Step.p1)
step_line_reads Step.p2 h = word_reads "p2" refl (λ us. refl) (reads_return 48 Step.p2)
step_line_reads (Step.pl l) h = one_reads label_exact Step.pl "pl" l h refl (λ us. refl)
step_line_reads (Step.ll l s j) h =
    word_reads "ll" refl (λ us. refl) (reads_then _ (label_exact.reads l h.label)
    (reads_then _ (label_set_exact.reads s h.share) (reads_last _ (interval_exact.reads j h.interval))))
step_line_reads (Step.ul l j) h = ul_reads label_exact interval_exact l j h
step_line_reads Step.br h = word_reads "br" refl (λ us. refl) (reads_return 48 Step.br)
step_line_reads (Step.bl l) h = one_reads label_exact Step.bl "bl" l h refl (λ us. refl)
step_line_reads Step.hr h = word_reads "hr" refl (λ us. refl) (reads_return 48 Step.hr)
step_line_reads (Step.hl l) h = one_reads label_exact Step.hl "hl" l h refl (λ us. refl)
step_line_reads Step.sr h = word_reads "sr" refl (λ us. refl) (reads_return 48 Step.sr)
step_line_reads Step.af h = word_reads "af" refl (λ us. refl) (reads_return 48 Step.af)
step_line_reads (Step.sl l) h = one_reads label_exact Step.sl "sl" l h refl (λ us. refl)
step_line_reads Step.gr h = word_reads "gr" refl (λ us. refl) (reads_return 48 Step.gr)
step_line_reads (Step.al l k) h =
    two_reads label_exact named_holder_exact Step.al "al" l k h.label h.holder refl (λ us. refl)

pub step_line_exact : Exact 48 step_line StepInRange step_fields 55
unfolding step_line step_fields labelled minutes
step_line_exact = record {
  reads = step_line_reads;
  only = choose_only (
      one_only label_exact Step.ax (λ l h. (h, refl))
      also one_only label_exact Step.cp (λ l h. (h, refl))
      also one_only label_set_exact Step.tr (λ s h. (h, refl))
      also one_only label_exact Step.tl (λ l h. (h, refl))
      also only_return Step.or tt refl
      also one_only label_exact Step.ol (λ l h. (h, refl))
      also only_return Step.wr tt refl
      also one_only label_exact Step.w1 (λ l h. (h, refl))
      also one_only label_exact Step.w2 (λ l h. (h, refl))
      also only_return Step.p1 tt refl
      also only_return Step.p2 tt refl
      also one_only label_exact Step.pl (λ l h. (h, refl))
      also only_then _ label_exact.only (λ l h. two_only label_set_exact interval_exact (Step.ll l)
      (λ s j i k. (record { label = h; share = i; interval = k }, refl)))
      also two_only label_exact interval_exact Step.ul (λ l j h k. (record { label = h; interval = k }, refl))
      also only_return Step.br tt refl
      also one_only label_exact Step.bl (λ l h. (h, refl))
      also only_return Step.hr tt refl
      also one_only label_exact Step.hl (λ l h. (h, refl))
      also only_return Step.sr tt refl
      also only_return Step.af tt refl
      also one_only label_exact Step.sl (λ l h. (h, refl))
      also only_return Step.gr tt refl
      also two_only label_exact named_holder_exact Step.al (λ l k h i. (record { label = h; holder = i }, refl))
      also done);
}

-- Hold lines: at most 12 bytes

pub hold_line_exact : Exact 48 hold_line (λ n. n in_range serial) hold_fields 12
unfolding hold_line hold_fields bytes same_bytes choose named all_of
hold_line_exact = record {
  reads = λ n h. word_reads "hold" refl (λ us. refl) (serial_exact.reads n h);
  only = choose_only (◌also◌ {t = "hold"} (only_after serial_exact.only) done);
}
