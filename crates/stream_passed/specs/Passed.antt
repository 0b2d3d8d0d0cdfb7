-- What came in through a descriptor, and what went out. No contract can say which bytes the operating system reads and
-- writes: these two words stand for it. All that can be known of them is how many bytes there are, and crate
-- stream_console alone knows it, which passes the words on shut (`pub use`). So above it bytes came in or went out
-- where the contracts of `receive` and `send` say so and nowhere else; what is proved there holds whatever the words
-- mean.
use Rattle.std.specs.Prelude.{◌≡◌, List, ℕ, ◌%◌, ◌^◌, ℤ, length}

-- the bytes b came in through the descriptor d, c of them modulo 2^64
unfoldable pub Came : ℤ → ℕ → List ℕ → Type 0
Came d c b = c ≡ length b % 2 ^ 64

-- the bytes b were handed out to the descriptor d, c of them modulo 2^64
unfoldable pub Went : ℤ → ℕ → List ℕ → Type 0
Went d c b = c ≡ length b % 2 ^ 64
