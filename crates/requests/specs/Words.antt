-- The first word of a line, and what follows it.
use Rattle.std.specs.Prelude.{ℕ, ◌+◌, ◌==◌, if◌then◌else◌, List, length, take, drop, position, codes, Option, Some, None}
use Rattle.std.specs.Option.{option_map, unwrap_or}
use Rattle.std.specs.Str.{bytes_eq}
use Rattle.requests.specs.declared.Word.{Word}
use Rattle.requests.specs.declared.Word.TheVariants.{Numbered, Erect}
use Rattle.requests.specs.declared.Verb.TheVariants as verb

-- the place of the first space, if there is one
abbrev pub space_in : List ℕ → Option ℕ
space_in line = position (λ b. b == 32) line

-- up to the first space, or all of the line
abbrev pub first_word : List ℕ → List ℕ
first_word line = take (unwrap_or (space_in line) (length line)) line

-- what follows the first space, if there is one
abbrev pub rest_of : List ℕ → Option (List ℕ)
rest_of line = option_map (λ end. drop (end + 1) line) (space_in line)

-- none of any other word
abbrev pub word_of : List ℕ → Option Word
word_of w =
    if bytes_eq w (codes "hang") then Some (Numbered verb.Hang)
    else if bytes_eq w (codes "takedown") then Some (Numbered verb.TakeDown)
    else if bytes_eq w (codes "report") then Some (Numbered verb.Report)
    else if bytes_eq w (codes "check") then Some (Numbered verb.Check)
    else if bytes_eq w (codes "wind") then Some (Numbered verb.Wind)
    else if bytes_eq w (codes "erect") then Some Erect
    else if bytes_eq w (codes "write") then Some (Numbered verb.Write)
    else if bytes_eq w (codes "help") then Some (Numbered verb.Help)
    else None
