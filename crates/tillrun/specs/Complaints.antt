-- What is said on standard error: a line that what could not be done, or was asked in vain, gets.
use Rattle.std.specs.Prelude.{◌≡◌, Bool, true, false, List, [], ◌∷◌, ◌++◌, ℕ, ltb, pos}
use Rattle.request.specs.Text.{bytes}
use Rattle.stream_console.specs.declared.Input.{Input}
use Rattle.stream_console.specs.declared.Output.{Output}
use Rattle.stream_console.specs.Console.{unwritten, Sent}

-- the line went out, where it is to be said; otherwise nothing did
abbrev pub Said : Output → Bool → List ℕ → Output → Type 0
Said u true line u' = Sent u line u'
Said u false line u' = u' ≡ u

-- the lines, each with its byte 10
abbrev pub no_arguments : List ℕ
no_arguments =
    bytes "tillrun: takes no arguments; sheets are read from standard input, as in: tillrun <FILE" ++ (10 ∷ [])

abbrev pub input_unread : List ℕ
input_unread = bytes "tillrun: the input could not be read; it is taken to end there" ++ (10 ∷ [])

abbrev pub answers_unwritten : List ℕ
answers_unwritten = bytes "tillrun: the answers could not be written; nothing more is read" ++ (10 ∷ [])

-- to standard error; the first of the words is the program's own name
abbrev pub Warned : ℕ → Output → Type 0
Warned words u' = Said (unwritten (pos 2)) (ltb 1 words) no_arguments u'

-- what the last read and the last write left
pub record Complained (u : Output) (i : Input) (o : Output) (u' : Output) : Type 0 where
  pub between : Output
  pub read : Said u i.misread input_unread between
  pub written : Said between o.failed answers_unwritten u'
