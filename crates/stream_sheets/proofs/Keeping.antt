-- Bytes of a sheet that has begun, put after those that are held.
use Rattle.std.proofs.Common.{◌≡◌, sym, ap, ◌∙◌, List, ◌++◌, ℕ, ◌+◌, ◌-◌, ◌≤◌, arith, min, length, take}
use Rattle.std.proofs.Common.{length-take-le}
use Rattle.std.proofs.Math.Seq.{take-append-add}
use Rattle.std.proofs.lemmas.List.{take_min}
use Rattle.std.proofs.lemmas.Slice.{take-put_mid}
use borrow.Rule.Slice.PartMut.{put_mid}
use Rattle.stream_sheets.specs.Sheets.{most}
use Rattle.stream_sheets.specs.Keeping.{Kept}

-- the first n of the bytes x, as many as there is room for, written after the first h
pub kept_first : (k x y : List ℕ) (h n d : ℕ) → length k ≡ most → h ≤ most → n ≡ min (most - h) (length x)
    → d ≡ n → y ≡ take n x → length (put_mid h d k y) ≡ length k → Kept k h x (put_mid h d k y) (h + n)
kept_first k x y h n d e f m q w l =
    let held = length-take-le h k (omega arith) in
    let all : most ≡ length (take h k) + (most - h) = omega arith in
    let long : length y ≡ n = rw w (length-take-le n x (omega arith)) in
    record {
      long = l ∙ e;
      few = omega arith;
      bytes =
          take-put_mid h d k y (h + n) (omega arith) (omega arith)
          ∙ ap (λ (z : List ℕ). take h k ++ z) (w ∙ ap (λ (j : ℕ). take j x) m ∙ take_min (most - h) x)
          ∙ sym (ap (λ (j : ℕ). take j (take h k ++ x)) all ∙ take-append-add (take h k) x (most - h));
    }
