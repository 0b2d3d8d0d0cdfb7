-- Fields: numbers, sets of labels, intervals, kinds.
use mathlib.Core.Path.{refl}
use mathlib.Core.Logic.{◌↔◌}
use mathlib.Core.List.{[], ◌∷◌}
use Prim.Native.Nat.{ℕ, suc, ◌+◌, ◌^◌, ◌<◌}
use native.Mathlib.Omega.{arith}
use Rattle.logic.specs.declared.Interval.{Interval}
use Rattle.logic.specs.Counts.{all_of}
use Rattle.request.specs.declared.Kind.{Kind}
use Rattle.request.specs.declared.Kind.TheVariants.{Linear, Unrestricted}
use Rattle.request.specs.Range.{Range, predicate, session, principal, minute, formula_number, serial, label}
use Rattle.request.specs.Range.{holds, steps, holder, named_holder}
use Rattle.request.specs.Text.{bytes, same_bytes}
use Rattle.request.specs.Reader.{named, choose}
use Rattle.request.specs.Read.{number, label_set, interval, kind}
use Rattle.request.specs.Write.{digits, hex_digits, minutes, kind_field}
use Rattle.request.specs.InRange.{◌in_range◌, LabelSet, IntervalInRange}
use Rattle.request.proofs.Digits.{number_back, number_only, digits_plain, digits_length}
use Rattle.request.proofs.Digits.{set_back, set_only, set_plain, set_length}
use Rattle.request.proofs.Readers.{Reads, Exact, exact_as, done, ◌also◌, only_return, only_then, reads_return}
use Rattle.request.proofs.Readers.{reads_then, reads_last, next_exact, choose_only, word_reads, two_only}

abbrev pub NumberExact : Range → ℕ → Type 0
NumberExact r n = Exact 48 (number r) (λ m. m in_range r) (λ m. digits m ∷ []) n

-- a number of at most k + 1 digits
pub number_exact : (r : Range) (k : ℕ) → r.last < 10 ^ suc k → NumberExact r (k + 2)
unfolding number
number_exact r k h =
    next_exact (number_back r) (λ n i. digits_plain n)
    (λ n i. omega (arith, digits_length n k (omega (arith, i.most)))) (number_only r)

pub label_exact : NumberExact label 3
label_exact = number_exact label 1 (omega arith)

pub formula_exact : NumberExact formula_number 4
formula_exact = number_exact formula_number 2 (omega arith)

pub predicate_exact : NumberExact predicate 4
predicate_exact = number_exact predicate 2 (omega arith)

pub principal_exact : NumberExact principal 4
principal_exact = number_exact principal 2 (omega arith)

pub session_exact : NumberExact session 6
session_exact = number_exact session 4 (omega arith)

pub holder_exact : NumberExact holder 6
holder_exact = number_exact holder 4 (omega arith)

pub named_holder_exact : NumberExact named_holder 6
named_holder_exact = number_exact named_holder 4 (omega arith)

pub holds_exact : NumberExact holds 3
holds_exact = number_exact holds 1 (omega arith)

pub steps_exact : NumberExact steps 4
steps_exact = number_exact steps 2 (omega arith)

pub serial_exact : NumberExact serial 7
serial_exact = number_exact serial 5 (omega arith)

pub minute_exact : NumberExact minute 8
minute_exact = number_exact minute 6 (omega arith)

pub label_set_exact : Exact 48 label_set LabelSet (λ s. hex_digits s ∷ []) 17
unfolding label_set
label_set_exact = next_exact set_back set_plain (λ s h. omega (arith, set_length s h)) set_only

-- the four numbers of an interval are minutes
abbrev AllMinutes : Interval → Type 0
AllMinutes i = (i.from in_range minute) × (i.to in_range minute) × (i.first in_range minute) × (i.last in_range minute)

in_range_holds : (i : Interval) → IntervalInRange i ↔ AllMinutes i
in_range_holds i = (
  λ h. (h.from, h.to, h.first, h.last),
  λ h. record { from = h.0; to = h.1; first = h.2; last = h.3 },
)

-- an interval is read as its minutes are
four_exact : NumberExact minute 8 → Exact 48 interval AllMinutes minutes 32
unfolding interval minutes
four_exact exact = record {
  reads = λ i h.
      reads_then _ (exact.reads i.from h.0) (reads_then _ (exact.reads i.to h.1)
      (reads_then _ (exact.reads i.first h.2) (reads_last _ (exact.reads i.last h.3))));
  only = only_then _ exact.only (λ i h. only_then _ exact.only (λ j k.
      two_only exact exact _ (λ p q l m. ((h, k, l, m), refl))));
}

pub interval_exact : Exact 48 interval IntervalInRange minutes 32
interval_exact = exact_as in_range_holds (four_exact minute_exact)

abbrev pub AnyKind : Kind → Type 0
AnyKind k = Unit {0}

pub kind_exact : Exact 48 kind AnyKind (λ k. kind_field k ∷ []) 2
unfolding kind kind_field bytes same_bytes choose named all_of
kind_exact = record {
  reads = go;
  only = choose_only (◌also◌ {t = "s"} (only_return Linear tt refl)
      (◌also◌ {t = "r"} (only_return Unrestricted tt refl) done));
}
  where
    go : (k : Kind) → AnyKind k → Reads 48 kind k (kind_field k ∷ []) 2
    go Linear h = word_reads "s" refl (λ us. refl) (reads_return 48 Linear)
    go Unrestricted h = word_reads "r" refl (λ us. refl) (reads_return 48 Unrestricted)
