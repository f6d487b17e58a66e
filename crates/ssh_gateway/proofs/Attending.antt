-- A run for which there was no session.
use Rattle.std.proofs.Common.{ℕ, List, [], Result, Ok, Err, refl, subst, inl, inr, length}
use Rattle.ssh_link.proofs.Tellings.{adds_nil}
use Rattle.ssh_auth.specs.declared.call.Call.{Call}
use Rattle.ssh_auth.specs.Publickey.{Acceptance}
use Rattle.ssh_rules.specs.declared.error.RunError.TheVariants as run
use Rattle.ssh_rules.specs.World.{Settings, World, opening_world}
use Rattle.ssh_gateway.specs.declared.error.GatewayError.{GatewayError}
use Rattle.ssh_gateway.specs.declared.error.GatewayError.TheVariants as error
use Rattle.ssh_gateway.specs.Board.{Board, opening_board}
use Rattle.ssh_gateway.specs.Choosing.{Permits}
use Rattle.ssh_gateway.specs.Gateway.{Attended, EndsSo, UnlessLost}
use Rattle.ssh_gateway.specs.Serving.{Outside}
use Rattle.ssh_gateway.specs.Turns.{Round, Rounds}
use Rattle.ssh_gateway.proofs.Bytes.{writes_so, reads_so}
use Rattle.ssh_gateway.proofs.Going.{short_map}
use Rattle.ssh_gateway.proofs.Laws.{decides_in, comes_to, opens_in}
use Rattle.ssh_gateway.proofs.Unfinished.{once_in}

-- there was no memory for a session: nothing was begun
pub unbegun : {E F : Type 0} (accepts : Acceptance) (permits : Permits) (settings : Settings)
    (max : ℕ) (Silent : Type 0) (IsTold : List (Call E) → Type 0) (before : Outside F) → IsTold []
    → Attended {E = E} {F = F} accepts permits settings max Silent IsTold before before
    (Err error.NoMemory)
unbegun {E} {F} accepts permits settings max Silent IsTold before none_told =
    let w = opening_world settings in
    let none : List (Round E F) = [] in
    let run : Rounds accepts permits opening_board w none opening_board w = (refl, refl) in
    record {
      whole = record {
        rounds = none;
        board = opening_board;
        world = w;
        run = run;
        one_run = refl;
        between = before;
        stepped = adds_nil before.beneath.steps;
        linked = adds_nil before.beneath.trace;
        asked = adds_nil before.targets;
        ends = inl (refl, refl);
        decides = λ earlier later round is. decides_in accepts permits settings earlier later round
            opening_board w
            (subst (λ l. Rounds accepts permits opening_board w l opening_board w) is run);
        comes_to = λ earlier later is. comes_to accepts permits settings earlier later opening_board w
            (subst (λ l. Rounds accepts permits opening_board w l opening_board w) is run);
        opens = λ earlier later round asked is source. opens_in accepts permits settings earlier later
            round asked opening_board w
            (subst (λ l. Rounds accepts permits opening_board w l opening_board w) is run) source;
        once = λ earlier later round is. once_in accepts permits opening_board w earlier later round
            opening_board w
            (subst (λ l. Rounds accepts permits opening_board w l opening_board w) is run);
        unfinished = tt;
        writes = λ id earlier later is. writes_so id accepts permits opening_board w earlier later
            opening_board w
            (subst (λ l. Rounds accepts permits opening_board w l opening_board w) is run);
        reads = λ id earlier later is. reads_so id accepts permits opening_board w earlier later
            opening_board w
            (subst (λ l. Rounds accepts permits opening_board w l opening_board w) is run);
        complete = λ same target_same valid. tt;
      };
      admitted = none_told;
      answered = refl;
    }

-- ---- the handler of authentication, once the gateway's own one is gone

lost_as : {E F : Type 0} (accepts : Acceptance) (permits : Permits) (max : ℕ) (board : Board)
    (w : World) (count : ℕ) (between after : Outside F)
    (result : Result (Unit {0}) (GatewayError E F))
    (ends : EndsSo accepts permits max board w count between after result)
    (Silent Silent' P P' : Type 0) → (Silent → Silent') → (P → P')
    → UnlessLost accepts permits max board w count between after result ends Silent P
    → UnlessLost accepts permits max board w count between after result ends Silent' P'
lost_as accepts permits max board w count between after (Ok done) ends Silent Silent' P P' s f h = f h
lost_as accepts permits max board w count between after (Err error.NoMemory) (inl none) Silent Silent'
    P P' s f h = f h
lost_as accepts permits max board w count between after (Err error.NoMemory) (inr ends) Silent Silent'
    P P' s f h = short_map accepts permits board w between after ends.1 P P' f h
lost_as accepts permits max board w count between after (Err error.TurnLimit) ends Silent Silent' P P'
    s f h = f h
lost_as accepts permits max board w count between after (Err error.TargetFault) ends Silent Silent' P
    P' s f h = f h
lost_as accepts permits max board w count between after (Err (error.Run (run.Handler e))) ends Silent
    Silent' P P' s f (inl silent) = inl (s silent)
lost_as accepts permits max board w count between after (Err (error.Run (run.Handler e))) ends Silent
    Silent' P P' s f (inr h) = inr (f h)
lost_as accepts permits max board w count between after (Err (error.Run why)) ends Silent Silent' P P'
    s f h = f h

pub attended_as : {E F : Type 0} (accepts : Acceptance) (permits : Permits) (settings : Settings)
    (max : ℕ) (Silent Silent' : Type 0) (IsTold IsTold' : List (Call E) → Type 0)
    (before after : Outside F) (result : Result (Unit {0}) (GatewayError E F))
    → (Silent → Silent') → ((made : List (Call E)) → IsTold made → IsTold' made)
    → Attended accepts permits settings max Silent IsTold before after result
    → Attended accepts permits settings max Silent' IsTold' before after result
attended_as accepts permits settings max Silent Silent' IsTold IsTold' before after result s f h = record {
  whole = h.whole;
  admitted = lost_as accepts permits max h.whole.board h.whole.world (length h.whole.rounds)
      h.whole.between after result h.whole.ends Silent Silent' _ _ s (f _) h.admitted;
  answered = lost_as accepts permits max h.whole.board h.whole.world (length h.whole.rounds)
      h.whole.between after result h.whole.ends Silent Silent' _ _ s (λ same. same) h.answered;
}
