-- Answers by computation: whoever unfolds `played` unfolds every definition from the bytes to the answers.
use mathlib.Core.List.{List, map}
use Prim.Native.String.{String}
use Rattle.logic.specs.Interval.{in_break, has, covers, contains, same_interval, reversed, broken}
use Rattle.logic.specs.Formula.{size, count, house_under, plain, unbound, quantified}
use Rattle.logic.specs.Multiset.{sum}
use Rattle.logic.specs.Counts.{up, even, sessions_of, all_of, balanced}
use Rattle.request.specs.Text.{bytes, same_bytes, and_then, push, fields, push_line, lines, reads, decimal_digit}
use Rattle.request.specs.Text.{hex_digit}
use Rattle.request.specs.Text.{decimal, number_in, label_set_in}
use Rattle.request.specs.Reader.{return, ◌>>=◌, next, many, named, choose, ended, whole, line}
use Rattle.request.specs.Request.{steps_intervals, intervals}
use Rattle.request.specs.Read.{number, label_set, interval, kind, part, parts, formula_line_with, labelled, step_line}
use Rattle.request.specs.Read.{hold_line}
use Rattle.request.specs.Read.{book_line, first_line_with, rest, request_lines, request_with}
use Rattle.steps.specs.Instance.{instance_row}
use Rattle.steps.specs.Plans.{when, right, affirmed, left, atomic, plan_of}
use Rattle.steps.specs.Check.{max_labels, begin, judged, onward, follow, premise_of, finished, check_of}
use Rattle.ledger.specs.Table.{build, formulas}
use Rattle.ledger.specs.Ledger.{empty, find, without_serial, held, linear_count, spend}
use Rattle.ledger.specs.Checks.{◌if◌, first, any_of, same_row, twice, labels_of, verdict}
use Rattle.ledger.specs.Checks.{steps, checks, checks_of}
use Rattle.ledger.specs.Calls.{Told, told, open_seats, shut_seats, placed, accept, decide, call, answers}
use Rattle.ledger.specs.Sessions.{of_lines}

-- what a list of requests, each given by its lines, is answered from the empty ledger on
unfoldable pub played : List (List String) → List Told
unfolding in_break has covers contains same_interval reversed broken size count house_under plain unbound quantified sum
    up even sessions_of all_of balanced bytes same_bytes and_then push fields push_line lines reads decimal_digit
    hex_digit
    decimal number_in label_set_in return ◌>>=◌ next many named choose ended whole line steps_intervals intervals number
    label_set interval kind part parts formula_line_with labelled step_line hold_line book_line first_line_with rest
    request_lines request_with when right affirmed left atomic instance_row plan_of max_labels begin judged onward
    follow
    premise_of finished check_of build formulas find without_serial held linear_count spend ◌if◌ first any_of same_row
    twice
    labels_of verdict steps checks checks_of open_seats shut_seats placed accept decide call answers of_lines
played rs = map told (answers empty (map of_lines rs))
