-- A note, field by field, and what it says of the bytes that passed. Nothing outside this crate can name these laws, so
-- that there bytes came in or went out only where a contract says so.
use Rattle.std.proofs.Common.{◌≡◌, ℕ, ◌+◌, ◌%◌, ◌^◌, ◌≤◌, Bool, eqb, List, ◌++◌, length, take, ℤ, pos, negsuc, sym}
use Rattle.std.proofs.Common.{refl, ap, ◌∙◌, arith, length-append, length-take-le}
use native.Mathlib.Nat.{min-le_right, mod-add-mod}
use lib.Signed.{lt_z}
use Rattle.stream_passed.specs.Passed.{Came, Went}
use Rattle.stream_console.specs.declared.Input.{Input}
use Rattle.stream_console.specs.declared.Output.{Output}
use Rattle.stream_console.specs.Console.{clamp_len, noted, handed, CameIn, WentOut, Sent}

-- A law that says of what a function returns one thing of all that a need asks: `part (λ (x : Need) (y : Law). y)`,
-- where the law takes what is returned from x, an equation of it.
abbrev pub part : {A B : Type 0} → (A → B → B) → Type 0
part {B = B} _ = B

abbrev pub returned : {A : Type 0} {a b : A} → a ≡ b → A
returned {a = a} e = a

pub noted_as : (i : Input) (z : ℤ) (n : ℕ) {i' : Input} → i'.from ≡ i.from → i'.reads ≡ (i.reads + 1) % 2 ^ 64
    → i'.bytes ≡ (i.bytes + i'.got) % 2 ^ 64 → i'.got ≡ clamp_len z n → i'.ended ≡ eqb i'.got 0
    → i'.misread ≡ lt_z z (pos 0) → i' ≡ noted i z n
noted_as i z n f r b g e m = λ j. record {
  from = f j;
  reads = r j;
  bytes = (b ∙ ap (λ (k : ℕ). (i.bytes + k) % 2 ^ 64) g) j;
  got = g j;
  ended = (e ∙ ap (λ (k : ℕ). eqb k 0) g) j;
  misread = m j;
}

pub handed_as : (u : Output) (n : ℕ) (written : Bool) {u' : Output} → u'.to ≡ u.to
    → u'.bytes ≡ (u.bytes + n) % 2 ^ 64 → u'.put ≡ n → u'.failed ≡ (handed u n written).failed
    → u' ≡ handed u n written
handed_as u n written t b p f = λ j. record { to = t j; bytes = b j; put = p j; failed = f j }

-- the count of the bytes b, and of n more, which are x
counted : {c c' n : ℕ} (b x : List ℕ) → c ≡ length b % 2 ^ 64 → c' ≡ (c + n) % 2 ^ 64 → n ≡ length x
    → c' ≡ length (b ++ x) % 2 ^ 64
counted {n = n} b x e e' q =
    e' ∙ ap (λ (c : ℕ). (c + n) % 2 ^ 64) e ∙ mod-add-mod (length b) (2 ^ 64) n
    ∙ ap (λ (m : ℕ). m % 2 ^ 64) (ap (λ (m : ℕ). length b + m) q ∙ sym (length-append b x))

clamped_few : (z : ℤ) (n : ℕ) → clamp_len z n ≤ n
clamped_few (pos k) n = min-le_right k n
clamped_few (negsuc k) n = omega arith

pub came_on : (i : Input) (x : List ℕ) (z : ℤ) {i' : Input} → i' ≡ noted i z (length x) → (b : List ℕ) → CameIn i b
    → CameIn i' (b ++ take i'.got x)
unfolding Came
came_on i x z {i'} q b e =
    let got = ap (λ (i : Input). i.got) q in
    counted b (take i'.got x) e (ap (λ (i : Input). i.bytes) q)
    (sym got ∙ sym (length-take-le i'.got x (rw got (clamped_few z (length x)))))

went_on : (u : Output) (x : List ℕ) (a : Bool) {u' : Output} → u' ≡ handed u (length x) a → (w : List ℕ)
    → WentOut u w → WentOut u' (w ++ x)
unfolding Went
went_on u x a q w e = counted w x e (ap (λ (u : Output). u.bytes) q) refl

pub sent_as : (u : Output) (x : List ℕ) (a : Bool) {u' : Output} → u' ≡ handed u (length x) a → Sent u x u'
sent_as u x a q = record { answer = a; note = q; went = went_on u x a q }
