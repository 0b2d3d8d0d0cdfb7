-- The notes of what is read and written: from which descriptor and to which, how much, and how it ended. Counts are
-- modulo 2^64.
use Rattle.std.specs.Prelude.{◌≡◌, ℕ, ◌+◌, ◌-◌, ◌%◌, ◌^◌, ◌<◌, ◌≤◌, Bool, true, false, ◌⊎◌, min, List, ◌++◌, length}
use Rattle.std.specs.Prelude.{take, ℤ, pos, negsuc, ◌==◌, int_lt, Option, Some, None}
pub use Rattle.stream_passed.specs.Passed.{Came, Went}
use Rattle.stream_console.specs.declared.Input.{Input}
use Rattle.stream_console.specs.declared.Output.{Output}

-- the bytes b are those that came in with the note i
abbrev pub CameIn : Input → List ℕ → Type 0
CameIn i b = Came i.from i.bytes b

-- the bytes w are those that went out with the note u
abbrev pub WentOut : Output → List ℕ → Type 0
WentOut u w = Went u.to u.bytes w

-- nothing is read
abbrev pub unread : ℤ → Input
unread d = record { from = d; reads = 0; bytes = 0; got = 0; ended = false; misread = false }

-- nothing is written
abbrev pub unwritten : ℤ → Output
unwritten d = record { to = d; bytes = 0; put = 0; failed = false }

-- what a call that is handed n bytes may answer: -1, or how many bytes it moved, at most n
abbrev pub Moved : ℕ → ℤ → Type 0
Moved n (pos k) = k ≤ n
Moved n (negsuc k) = k ≡ 0

-- what a read answered: how many bytes it gave, or -1 where it failed
abbrev pub answer_of : Option ℕ → ℤ
answer_of (Some n) = pos n
answer_of None = negsuc 0

-- what a call answered, brought into the numbers up to n
abbrev pub clamp_len : ℤ → ℕ → ℕ
clamp_len (pos k) n = min k n
clamp_len (negsuc k) n = 0

-- one read more of n bytes at most, which was answered z: the bytes that it gave, none where it ended or failed
abbrev pub noted : Input → ℤ → ℕ → Input
noted i z n = record {
  from = i.from;
  reads = (i.reads + 1) % 2 ^ 64;
  bytes = (i.bytes + clamp_len z n) % 2 ^ 64;
  got = clamp_len z n;
  ended = (clamp_len z n == 0);
  misread = int_lt z (pos 0);
}

-- n bytes more handed over, and whether all were written
abbrev pub handed : Output → ℕ → Bool → Output
handed u n written = record {
  to = u.to;
  bytes = (u.bytes + n) % 2 ^ 64;
  put = n;
  failed = elim written [ true ↦ false | false ↦ true ];
}

-- One read, which left the piece x: what the call answered is noted, and the first bytes of the piece came in.
pub record Received (i : Input) (x : List ℕ) (i' : Input) : Type 0 where
  pub answer : ℤ
  pub moved : Moved (length x) answer
  pub note : i' ≡ noted i answer (length x)
  pub came : (b : List ℕ) → CameIn i b → CameIn i' (b ++ take i'.got x)

-- One write of the bytes x: what it answered is noted, and they went out.
pub record Sent (u : Output) (x : List ℕ) (u' : Output) : Type 0 where
  pub answer : Bool
  pub note : u' ≡ handed u (length x) answer
  pub went : (w : List ℕ) → WentOut u w → WentOut u' (w ++ x)

-- the most reads
abbrev pub most_reads : ℕ
most_reads = 2 ^ 64 - 1

-- why no more is read: the last read gave nothing, what was to be written could not be, or 2^64 - 1 reads were made
abbrev pub Stopped : Input → Output → Type 0
Stopped i u = (i.ended ≡ true) ⊎ ((u.failed ≡ true) ⊎ (most_reads ≤ i.reads))

abbrev pub GoesOn : Input → Output → Bool → Type 0
GoesOn i u true = (i.ended ≡ false) × ((u.failed ≡ false) × (i.reads < most_reads))
GoesOn i u false = Stopped i u
