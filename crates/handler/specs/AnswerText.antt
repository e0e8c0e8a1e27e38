-- What is printed for a line: a function of the machine's state and of what the line asks for.
use Rattle.std.specs.Prelude.{ℕ, ◌==◌, if◌then◌else◌, List, [], ◌∷◌, length}
use Rattle.model.specs.Machine.{State, no_tower, standing, report_refusal, rows_in, over_in, write_refusal, file_in}
use Rattle.model.specs.Calls.{Call, erect, hang, take_down, wind, report, check, write, refusal_of}
use Rattle.replies.specs.Help.{help_text}
use Rattle.replies.specs.MessageText.{fault_text, done_text, refused_text, count_text, report_text, none_text, file_text, error_text}
use Rattle.requests.specs.Asked.{Asked, called, reported, written, helped, wrong}

-- the number of the rule that turns it down, or 0
abbrev pub refusal_to : State → Asked → ℕ
refusal_to m (called c) = refusal_of m c
refusal_to m (reported room) = report_refusal m room
refusal_to m (written room) = write_refusal m room
refusal_to m helped = 0
refusal_to m (wrong f) = 0

abbrev pub sections_in : State → ℕ
sections_in no_tower = 0
sections_in (standing t w) = length t.sections

-- the topmost section over its allowance, or that none is
abbrev pub over_text : List ℕ → List ℕ
over_text [] = none_text
over_text (i ∷ more) = count_text i

-- check names a section; a report or a write is `reported` or `written`, and as a call it would be answered as the
-- others are
abbrev pub called_text : State → Call → List ℕ
called_text m (erect file) = done_text
called_text m (hang it) = done_text
called_text m (take_down n) = done_text
called_text m (wind w) = done_text
called_text m (report lent) = done_text
called_text m check = over_text (over_in m)
called_text m (write lent) = done_text

-- where it is not turned down
abbrev pub accepted_text : State → Asked → List ℕ
accepted_text m (called c) = called_text m c
accepted_text m (reported room) = report_text (sections_in m) (rows_in m)
accepted_text m (written room) = file_text (file_in m)
accepted_text m helped = help_text
accepted_text m (wrong f) = error_text (fault_text f)

unfoldable pub answer_text : State → Asked → List ℕ
answer_text m a = if refusal_to m a == 0 then accepted_text m a else refused_text (refusal_to m a)
