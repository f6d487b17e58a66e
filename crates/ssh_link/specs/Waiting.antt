-- How a queue of inputs sets one of them aside.
use Rattle.std.specs.Prelude.{Bool, false, not, ◌||◌, List, [], ◌∷◌, ◌++◌, take, drop}
use Rattle.std.specs.List.{filter}
use Rattle.ssh_link.specs.declared.frame.Input.{Input}
use Rattle.ssh_link.specs.Asked.{is_asked}
use Rattle.ssh_link.specs.Supply.{Supply, is_command, is_reply}

-- whether the first of these is there and is not asked for
abbrev pub first_passes : Bool → Bool → List Input → Bool
first_passes commands replies [] = false
first_passes commands replies (input ∷ inputs) = not (is_asked commands replies input.kind)

-- whether the first of these is there and is a reply or a command
abbrev pub first_waits : List Input → Bool
first_waits [] = false
first_waits (input ∷ inputs) = is_reply input.kind || is_command input.kind

-- the first of those that were not reached yet is set aside
abbrev pub first_aside : Supply → Supply
first_aside supply = record supply {
  replies = supply.replies ++ filter (λ input. is_reply input.kind) (take 1 supply.left);
  commands = supply.commands ++ filter (λ input. is_command input.kind) (take 1 supply.left);
  left = drop 1 supply.left;
}
