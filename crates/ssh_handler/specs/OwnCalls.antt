-- What was asked in calls, and which of them are those of a session's own callbacks and not of
-- authentication (RFC 4252).
use Rattle.std.specs.Prelude.{Bool, true, false, List, map}
use Rattle.std.specs.List.{filter}
use Rattle.ssh_auth.specs.declared.call.Call.{Call}
use Rattle.ssh_auth.specs.declared.question.Question.{Question}
use Rattle.ssh_auth.specs.declared.question.Question.TheVariants.{Banner, Admits}
use Rattle.ssh_auth.specs.Was.{asked_of}

-- what was asked in these calls, in order
abbrev pub questions : {E : Type 0} → List (Call E) → List Question
questions calls = map asked_of calls

-- whether a callback of a session is asked this: all but the banner and whether a user is let in
abbrev pub is_own : Question → Bool
is_own Banner = false
is_own (Admits admission) = false
is_own question = true

-- the calls of such callbacks, in order
abbrev pub own_calls : {E : Type 0} → List (Call E) → List (Call E)
own_calls calls = filter (λ call. is_own (asked_of call)) calls
