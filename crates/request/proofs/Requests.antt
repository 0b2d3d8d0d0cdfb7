-- Requests: read from their lines and from no others; and their bytes.
use mathlib.Core.Path.{◌≡◌, refl, sym, ap, subst, ◌∙◌}
use mathlib.Core.List.{List, [], ◌∷◌}
use Prim.Native.Nat.{ℕ, ◌+◌, ◌*◌, ◌≤◌}
use native.Mathlib.Omega.{arith}
use lib.ListN.{length}
use Rattle.logic.specs.declared.Interval.{Interval}
use Rattle.logic.specs.Counts.{all_of}
use Rattle.request.specs.Range.{session, serial, minute, formula_number, holds, steps, max_bytes}
use Rattle.request.specs.Text.{bytes, same_bytes, and_then, lines}
use Rattle.request.specs.Reader.{named, choose, line}
use Rattle.request.specs.Request.{Booking, Request, word, issue, withdraw, book, tally}
use Rattle.request.specs.Read.{hold_line, step_line, Head, alone, booking, book_line, first_line, first_line_with, rest}
use Rattle.request.specs.Read.{request_lines, request_of, request_with}
use Rattle.request.specs.Write.{minutes, joined, hold_fields, step_fields, book_fields, head_fields, more_lines}
use Rattle.request.specs.Write.{ended_lines, request_texts, write}
use Rattle.request.specs.InRange.{◌in_range◌, IntervalInRange, BookingInRange, StepInRange, InRange}
use Rattle.request.specs.Statements.{WriteRead, ReadInRange, ReadWrite, longest, Longest, WriteShort}
use Rattle.request.proofs.Gives.{Gives, given, gives_then, gives_so}
use Rattle.request.proofs.Texts.{lines_ended, ended_lines_holds, ended_size}
use Rattle.request.proofs.Readers.{Texts, Reads, Only, Exact, done, ◌also◌, only_return, only_then}
use Rattle.request.proofs.Readers.{reads_return, reads_then, reads_last, reads_within, choose_only, word_reads}
use Rattle.request.proofs.Readers.{line_reads, line_exact, many_read, many_only, whole_back, whole_only}
use Rattle.request.proofs.Readers.{one_reads, one_only, two_reads, two_only}
use Rattle.request.proofs.Fields.{formula_exact, session_exact, holds_exact, steps_exact, serial_exact}
use Rattle.request.proofs.Fields.{minute_exact, interval_exact, kind_exact}
use Rattle.request.proofs.LineReaders.{formula_line_exact, step_line_exact, hold_line_exact}

-- The first line: at most 71 bytes, a booking's at most 56

abbrev HeadInRange : Head → Type 0
HeadInRange (alone (word l)) = InRange (word l)
HeadInRange (alone (issue k n i)) = InRange (issue k n i)
HeadInRange (alone (withdraw n)) = InRange (withdraw n)
HeadInRange (alone (book b)) = ⊥
HeadInRange (alone (tally s m)) = InRange (tally s m)
HeadInRange (booking now n i h k) = record {
  now : now in_range minute;
  formula : n in_range formula_number;
  interval : IntervalInRange i;
  hold_count : h in_range holds;
  step_count : k in_range steps;
}

head_texts : Head → Texts
head_texts (alone r) = head_fields r
head_texts (booking now n i h k) = book_fields now n i h k

book_reads : (now n : ℕ) (i : Interval) (h k : ℕ) → HeadInRange (booking now n i h k)
    → Reads 48 first_line (booking now n i h k) (book_fields now n i h k) 56
unfolding first_line_with book_fields book_line bytes same_bytes choose named all_of
book_reads now n i h k r =
    word_reads "book" refl (λ us. refl) (reads_then _ (minute_exact.reads now r.now)
    (reads_then _ (formula_exact.reads n r.formula) (reads_then _ (interval_exact.reads i r.interval)
    (reads_then _ (holds_exact.reads h r.hold_count) (reads_last _ (steps_exact.reads k r.step_count))))))

head_reads : (h : Head) → HeadInRange h → Reads 48 first_line h (head_texts h) 71
unfolding first_line_with head_texts head_fields bytes same_bytes choose named all_of
head_reads (alone (word l)) h = one_reads formula_line_exact _ "word" l h refl (λ us. refl)
head_reads (alone (issue k n i)) h =
    word_reads "issue" refl (λ us. refl) (reads_then _ (kind_exact.reads k tt)
    (reads_then _ (formula_exact.reads n h.formula) (reads_last _ (interval_exact.reads i h.interval))))
head_reads (alone (withdraw n)) h = one_reads serial_exact _ "withdraw" n h refl (λ us. refl)
head_reads (alone (book b)) h = absurd h
head_reads (alone (tally s m)) h =
    two_reads session_exact minute_exact _ "tally" s m h.session h.minute refl (λ us. refl)
head_reads (booking now n i h k) r = reads_within (omega arith) (book_reads now n i h k r)

head_exact : Exact 48 first_line HeadInRange head_texts 71
unfolding first_line_with head_texts head_fields book_fields book_line minutes
head_exact = record {
  reads = head_reads;
  only = choose_only (
      one_only formula_line_exact _ (λ l h. (h, refl))
      also only_then _ kind_exact.only (λ k u. two_only formula_exact interval_exact _
      (λ n i h j. (record { formula = h; interval = j }, refl)))
      also one_only serial_exact _ (λ n h. (h, refl))
      also only_then _ minute_exact.only (λ now a. only_then _ formula_exact.only (λ n b.
      only_then _ interval_exact.only (λ i c. two_only holds_exact steps_exact _
      (λ h k d e. (record { now = a; formula = b; interval = c; hold_count = d; step_count = e }, refl)))))
      also two_only session_exact minute_exact _ (λ s m h k. (record { session = h; minute = k }, refl))
      also done);
}

-- All lines

head_line : Exact 44 (line first_line) HeadInRange (λ h. joined (head_texts h) ∷ []) 71
unfolding first_line_with choose
head_line = line_exact refl head_exact

hold_line_holds : Exact 44 (line hold_line) (λ n. n in_range serial) (λ n. joined (hold_fields n) ∷ []) 12
unfolding hold_line choose
hold_line_holds = line_exact refl hold_line_exact

step_line_holds : Exact 44 (line step_line) StepInRange (λ s. joined (step_fields s) ∷ []) 55
unfolding step_line choose
step_line_holds = line_exact refl step_line_exact

-- a request of one line
single_reads : (r : Request) → HeadInRange (alone r) → more_lines r ≡ []
    → Reads 44 (request_lines session) r (request_texts r) longest
unfolding request_lines request_texts head_texts rest
single_reads r h e =
    rw e (reads_within (omega arith) (reads_then _ (head_line.reads (alone r) h) (reads_return 44 r)))

book_head : (b : Booking) → BookingInRange b → Reads 44 (line first_line)
    (booking b.now b.formula b.interval (length b.holds) (length b.steps))
    (joined (head_fields (book b)) ∷ []) 56
unfolding first_line_with choose head_fields
book_head b h = line_reads refl (book_reads _ _ _ _ _ (record {
  now = h.now;
  formula = h.formula;
  interval = h.interval;
  hold_count = h.hold_count;
  step_count = h.step_count;
}))

-- no booking is longer
book_longest : (h k : ℕ) → h ≤ holds.last → k ≤ steps.last → 56 + (h * 12 + k * 55) ≤ longest
book_longest h k a b = omega arith

request_reads : (r : Request) → InRange r → Reads 44 (request_lines session) r (request_texts r) longest
unfolding request_lines request_texts more_lines head_fields head_texts rest
request_reads (word l) h = single_reads (word l) h refl
request_reads (issue k n i) h = single_reads (issue k n i) h refl
request_reads (withdraw n) h = single_reads (withdraw n) h refl
request_reads (book b) h =
    reads_within (book_longest (length b.holds) (length b.steps) h.hold_count.most h.step_count.most)
    (reads_then _ (book_head b h)
    (reads_then _ (many_read hold_line_holds b.holds h.holds)
    (reads_last _ (many_read step_line_holds b.steps h.steps))))
request_reads (tally s m) h = single_reads (tally s m) h refl

rest_only : (h : Head) → HeadInRange h → Only InRange request_texts (joined (head_texts h) ∷ []) (rest h)
unfolding request_texts more_lines head_fields head_texts rest
rest_only (alone (word l)) p = only_return _ p refl
rest_only (alone (issue k n i)) p = only_return _ p refl
rest_only (alone (withdraw n)) p = only_return _ p refl
rest_only (alone (book b)) p = absurd p
rest_only (alone (tally s m)) p = only_return _ p refl
rest_only (booking now n i h k) p =
    only_then _ (many_only hold_line_holds h) (λ hs q. only_then _ (many_only step_line_holds k) (λ ss t.
    only_return _
    (record {
      now = p.now;
      formula = p.formula;
      interval = p.interval;
      hold_count = subst (λ m. m in_range holds) (sym q.0) p.hold_count;
      step_count = subst (λ m. m in_range steps) (sym t.0) p.step_count;
      holds = q.1;
      steps = t.1;
    })
    (rw (q.0, t.0))))

request_lines_only : Only InRange request_texts [] (request_lines session)
unfolding request_lines
request_lines_only = only_then _ head_line.only rest_only

-- Requests in bytes

pub write_read : WriteRead
unfolding request_with write and_then
write_read r h =
    let s = request_reads r h in
    rw (lines_ended (request_texts r) s.plain, and_then) (whole_back s)

request_only : (b : List ℕ) → Gives (λ r. InRange r × (write r ≡ b)) (request_of b)
unfolding request_with write
request_only b =
    gives_then (ended_lines_holds b) (λ ls e.
    gives_so (whole_only request_lines_only ls) (λ r p. (p.0, ap ended_lines p.1 ∙ e)))

pub read_in_range : ReadInRange
read_in_range b r e = (given (request_only b) e).0

pub read_write : ReadWrite
read_write b r e = (given (request_only b) e).1

pub longest_write : Longest
unfolding write
longest_write r h = omega (arith, ended_size (request_texts r), (request_reads r h).short)

-- the longest request is a sheet
longest_fits : longest ≤ max_bytes
longest_fits = omega arith

pub write_short : WriteShort
write_short r h = omega (arith, longest_write r h, longest_fits)
