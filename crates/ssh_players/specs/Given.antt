-- What the link of a script gives: an answer to an open that was set aside and is asked for, else a
-- command that was
-- set aside and is asked for, else the next input, else the end.
use Rattle.std.specs.Prelude.{◌≡◌, ℕ, List, [], ◌∷◌, ◌++◌, map, Option, Some, None, false}
use Rattle.ssh_link.specs.declared.frame.Input.{Input}
use Rattle.ssh_link.specs.declared.link.TraceEntry.{TraceEntry}
use Rattle.ssh_link.specs.declared.link.TraceEntry.TheVariants as entry
use Rattle.ssh_link.specs.Supply.{Supply, next_input, after_next}

-- the inputs that were taken are those of the supply, in its order
abbrev pub IsGiven : Supply → List TraceEntry → Type 0
IsGiven supply [] = Unit {0}
IsGiven supply (entry.Took commands replies input ∷ entries) =
    (input ≡ next_input commands replies supply) × IsGiven (after_next commands replies supply)
    entries
IsGiven supply (entry.Sent frame ∷ entries) = IsGiven supply entries
IsGiven supply (entry.Noticed notice ∷ entries) = IsGiven supply entries
IsGiven supply (entry.Answered ticket outcome ∷ entries) = IsGiven supply entries

-- the entry as this supply gives its input
abbrev pub given_as : Supply → TraceEntry → TraceEntry
given_as supply (entry.Took commands replies input) = entry.Took commands replies
    (next_input commands replies supply)
given_as supply (entry.Sent frame) = entry.Sent frame
given_as supply (entry.Noticed notice) = entry.Noticed notice
given_as supply (entry.Answered ticket outcome) = entry.Answered ticket outcome

-- what is left after it
abbrev pub after : Supply → TraceEntry → Supply
after supply (entry.Took commands replies input) = after_next commands replies supply
after supply (entry.Sent frame) = supply
after supply (entry.Noticed notice) = supply
after supply (entry.Answered ticket outcome) = supply

-- the entries as this supply gives their inputs, in order
abbrev pub as_given : Supply → List TraceEntry → List TraceEntry
as_given supply [] = []
as_given supply (one ∷ more) = given_as supply one ∷ as_given (after supply one) more

abbrev pub left_after : Supply → List TraceEntry → Supply
left_after supply [] = supply
left_after supply (one ∷ more) = left_after (after supply one) more

-- the inputs as a link tells them before its calls: an entry for each, and one for the moment of
-- the end
abbrev pub told_input : Input → TraceEntry
told_input input = entry.Took false false input

abbrev pub told_moment : ℕ → TraceEntry
told_moment moment = entry.Sent (record { payload = []; hold_until = Some moment; channel = None })

abbrev pub heading : List Input → ℕ → List TraceEntry
heading inputs moment = map told_input inputs ++ told_moment moment ∷ []

-- what a link tells that has these inputs, with the end at this moment, and whose calls are these
abbrev pub trace_of : List Input → ℕ → List TraceEntry → Option (List TraceEntry)
trace_of inputs moment entries = Some (heading inputs moment ++ entries)
