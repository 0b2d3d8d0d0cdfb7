-- The measure is the number: each call below has its tenth.
use Rattle.stream_print.proofs.+put_digits.Given as goal

abbrev pub decreases-put_digits : goal.decreases-put_digits
decreases-put_digits l = l.n
