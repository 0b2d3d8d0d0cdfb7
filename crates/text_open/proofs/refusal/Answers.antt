-- A text in its form that does not pass fails 51.
use Rattle.text_open.proofs.Building.{fails_50, fails_51}
use Rattle.text_open.proofs.refusal.Goals as goal

pub returns-in_default : goal.returns-in_default
returns-in_default c = fails_50 c.text_form.ensures c.in_default.is

pub returns : goal.returns
returns c = fails_51 c.text_form.ensures c.in-Passed.is c.requires
