-- How a run is written, as the code asks for it.
use Rattle.std.specs.Prelude.{ℕ, List, ◌++◌, flat_map, Result}
use Rattle.ssh_auth.specs.declared.question.Question.{Question}
use Rattle.ssh_link.specs.declared.link.TraceEntry.{TraceEntry}
use Rattle.ssh_link.specs.declared.plain_kex.PlainKexError.{PlainKexError}
use Rattle.ssh_rules.specs.declared.error.RunError.{RunError}
use Rattle.ssh_players.specs.Played.{Failure}
use Rattle.ssh_transcript.specs.CallLines.{question_line}
use Rattle.ssh_transcript.specs.Print.{entry_lines, last_line}
use Rattle.ssh_transcript.specs.Summary.{summary}
use Rattle.ssh_script.specs.declared.run.Writing.{Writing}
use Rattle.ssh_script.specs.declared.run.Writing.TheVariants.{LineByLine, InNumbers}
use Rattle.ssh_script.specs.Transcript.{line_by_line, in_numbers}
use Rattle.ssh_script.specs.Transcript as owed

-- this is written of a run
abbrev pub writing_of : Writing → owed.Writing
writing_of LineByLine = line_by_line
writing_of InNumbers = in_numbers

-- and this of what was asked, of the calls of the link, and of how it ended
abbrev pub text_in : Writing → List Question → List TraceEntry
    → Result (Unit {0}) (RunError Failure PlainKexError) → List ℕ
text_in LineByLine asked trace result = flat_map question_line asked ++ entry_lines 0 trace
    ++ last_line result
text_in InNumbers asked trace result = summary trace result
