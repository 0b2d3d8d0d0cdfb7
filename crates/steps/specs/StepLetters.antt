-- The rule that a step line names, by its letter, with the interval of `ll` and `ul` and the holder of `al`; its labels
-- forgotten.
use Rattle.std.specs.Prelude.{List, map}
use Rattle.logic.specs.Derives.{Letter}
use Rattle.request.specs.Request.{Step}

abbrev pub letter_of : Step → Letter
letter_of (Step.ax l) = Letter.ax
letter_of (Step.cp l) = Letter.cp
letter_of (Step.tr s) = Letter.tr
letter_of (Step.tl l) = Letter.tl
letter_of Step.or = Letter.or
letter_of (Step.ol l) = Letter.ol
letter_of Step.wr = Letter.wr
letter_of (Step.w1 l) = Letter.w1
letter_of (Step.w2 l) = Letter.w2
letter_of Step.p1 = Letter.p1
letter_of Step.p2 = Letter.p2
letter_of (Step.pl l) = Letter.pl
letter_of (Step.ll l s j) = Letter.ll j
letter_of (Step.ul l j) = Letter.ul j
letter_of Step.br = Letter.br
letter_of (Step.bl l) = Letter.bl
letter_of Step.hr = Letter.hr
letter_of (Step.hl l) = Letter.hl
letter_of Step.sr = Letter.sr
letter_of Step.af = Letter.af
letter_of (Step.sl l) = Letter.sl
letter_of Step.gr = Letter.gr
letter_of (Step.al l h) = Letter.al h

-- of step lines
abbrev pub letters_of : List Step → List Letter
letters_of ss = map letter_of ss
