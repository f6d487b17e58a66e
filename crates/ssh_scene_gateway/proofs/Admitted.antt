-- How a script's handler answers who is let in, where it is asked for nothing else.
use Rattle.std.proofs.Common.{◌≡◌, List, [], ◌∷◌, ◌++◌, true, Ok, refl, ◌∙◌, ap, subst}
use Rattle.ssh_auth.specs.declared.call.Call.{Call}
use Rattle.ssh_auth.specs.declared.question.Admission.TheVariants as by
use Rattle.ssh_auth.specs.declared.question.Judged.{Judged}
use Rattle.ssh_auth.specs.declared.question.Lent.{Lent}
use Rattle.ssh_auth.specs.declared.question.Question.{Question}
use Rattle.ssh_auth.specs.declared.question.Question.TheVariants as ask
use Rattle.ssh_auth.specs.Calls.{lent_call, judged_call}
use Rattle.ssh_auth.specs.Was.{question_of, asked_of}
use Rattle.ssh_auth.proofs.Back.{lent_back, judged_back}
use Rattle.ssh_gateway.specs.Answering.{of_authentication}
use Rattle.ssh_handler.specs.OwnCalls.{is_own}
use Rattle.ssh_players.specs.Played.{Failure, told_queue, told_interactive, told_banners, told_banner}
use Rattle.ssh_players.specs.Played.{told_opens, told_data, told_requests, told_forwards, heading}
use Rattle.ssh_players.specs.Played.{played, after, answered, records, grants, IsAnswered}
use Rattle.ssh_players.proofs.Heads.{heads}
use Rattle.ssh_scene.specs.Queues.{Queues}
use Rattle.ssh_scene.specs.declared.answers.Standing.{Standing}

-- ---- calls of a session's own callbacks are none of authentication

own_left_out : (one : Call Failure) (question : Question) (rest : List (Call Failure))
    → asked_of one ≡ question → is_own question ≡ true
    → of_authentication (one ∷ rest) ≡ of_authentication rest
own_left_out one question rest is own = rw (ap is_own is ∙ own) refl

lent_left_out : (queues : Queues) (lent : Lent) (rest : List (Call Failure))
    → of_authentication (answered queues (ask.Lends lent) ++ rest) ≡ of_authentication rest
lent_left_out queues lent rest =
    own_left_out (lent_call lent (Ok tt) (records queues.standing lent)) (ask.Lends lent) rest
    (ap question_of (lent_back Failure lent (Ok tt) (records queues.standing lent))) refl

judged_left_out : (queues : Queues) (judged : Judged) (rest : List (Call Failure))
    → of_authentication (answered queues (ask.Judges judged) ++ rest) ≡ of_authentication rest
judged_left_out queues judged rest =
    own_left_out (judged_call judged (Ok (grants queues.standing judged)) [])
    (ask.Judges judged) rest
    (ap question_of (judged_back Failure judged (Ok (grants queues.standing judged)) [])) refl

-- ---- what was played of authentication was answered by the script, whatever stands for the run

played_so : (queues : Queues) (standing : Standing) (all : List Question)
    → IsAnswered (record queues { standing = standing }) (of_authentication (played queues all))
played_so queues standing [] = tt
played_so queues standing (ask.Banner ∷ more) =
    (refl, played_so (after queues ask.Banner) standing more)
played_so queues standing (ask.Admits (by.None user) ∷ more) =
    (refl, played_so (after queues (ask.Admits (by.None user))) standing more)
played_so queues standing (ask.Admits (by.Password user password) ∷ more) =
    (refl, played_so (after queues (ask.Admits (by.Password user password))) standing more)
played_so queues standing (ask.Admits (by.PublickeyOffered user key algorithm) ∷ more) = (
  refl,
  played_so (after queues (ask.Admits (by.PublickeyOffered user key algorithm))) standing
      more,
)
played_so queues standing (ask.Admits (by.Publickey user key algorithm) ∷ more) =
    (refl, played_so (after queues (ask.Admits (by.Publickey user key algorithm))) standing more)
played_so queues standing (ask.Admits (by.OpensshCertificate user certificate) ∷ more) = (
  refl,
  played_so (after queues (ask.Admits (by.OpensshCertificate user certificate))) standing
      more,
)
played_so queues standing (ask.Admits (by.KeyboardInteractive user submethods response) ∷ more) = (
  refl,
  played_so (after queues (ask.Admits (by.KeyboardInteractive user submethods response)))
      standing more,
)
played_so queues standing (ask.Lends lent ∷ more) =
    rw (lent_left_out queues lent (played queues more)) (played_so queues standing more)
played_so queues standing (ask.Judges judged ∷ more) =
    rw (judged_left_out queues judged (played queues more)) (played_so queues standing more)
played_so queues standing (ask.Listens address port ∷ more) = played_so queues standing more
played_so queues standing (ask.Adjusts channel current ∷ more) = played_so queues standing more
played_so queues standing (ask.Done place outcome ∷ more) = played_so queues standing more
played_so queues standing (ask.Begins ∷ more) = played_so queues standing more
played_so queues standing (ask.Steps payload ∷ more) = played_so queues standing more

-- ---- the handler tells its answers first

-- of what it tells first, these are calls of authentication
abbrev first_calls : Queues → List (Call Failure) → List (Call Failure)
first_calls queues rest = told_queue queues.none ∷ told_queue queues.password
    ∷ told_queue queues.offered ∷ told_queue queues.publickey ∷ told_queue queues.certificate
    ∷ told_interactive queues.interactive ∷ told_banners queues.banners
    ∷ told_banner queues.banner ∷ rest

-- behind them these stand for the whole run
abbrev with_standing : Standing → List (Call Failure) → List (Call Failure)
with_standing standing rest = told_opens standing.opens ∷ told_data standing.incoming
    ∷ told_requests standing.requests ∷ told_forwards standing.forwards ∷ rest

standing_too : (a b : Queues) (standing : Standing) (xs ys : List (Call Failure))
    → first_calls a xs ≡ first_calls b ys
    → first_calls a (with_standing standing xs) ≡ first_calls b (with_standing standing ys)
standing_too a b standing xs ys e = cc

same_but : (a b : Queues) (xs ys : List (Call Failure)) → first_calls a xs ≡ first_calls b ys
    → (record a { standing = b.standing } ≡ b) × (xs ≡ ys)
same_but a b xs ys e =
    heads (record a { standing = b.standing }) b xs ys (standing_too a b b.standing xs ys e)

pub admitted_so : (queues queues' : Queues) (all : List Question) (made : List (Call Failure))
    → of_authentication (heading queues' ++ played queues' all)
    ≡ of_authentication (heading queues) ++ made → IsAnswered queues made
admitted_so queues queues' all made e =
    let both = same_but queues' queues (of_authentication (played queues' all)) made e in
    subst (IsAnswered queues) both.1
    (subst (λ q. IsAnswered q (of_authentication (played queues' all))) both.0
    (played_so queues' queues.standing all))
