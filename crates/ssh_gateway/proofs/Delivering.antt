-- What was asked goes to the targets, question by question.
use Rattle.std.proofs.Common.{◌≡◌, ◌<◌, ◌≤◌, ◌+◌, ℕ, suc, arith, List, [], ◌++◌, Option, Some, refl, sym, ◌∙◌, ap}
use Rattle.std.proofs.Common.{subst, length, drop, append_assoc}
use Rattle.std.specs.Prelude.{IfSome}
use Rattle.std.specs.List.{slice_index_or}
use Rattle.std.proofs.lemmas.List.{append-nil, drop_all}
use Rattle.ssh_link.specs.Told.{Adds}
use Rattle.ssh_link.proofs.Tellings.{adds_both, adds_nil}
use Rattle.ssh_auth.specs.declared.question.Question.{Question}
use Rattle.ssh_gateway.specs.declared.targets.TargetCall.{TargetCall}
use Rattle.ssh_gateway.specs.declared.targets.TargetFault.{TargetFault}
use Rattle.ssh_gateway.specs.Board.{Board, noted, all_noted, due_on, all_due}
use Rattle.ssh_gateway.specs.Doing.{FailsTelling, closed_to}
use Rattle.ssh_gateway.proofs.Cutting.{fails_more, fails_behind}
use Rattle.ssh_gateway.proofs.Lists.{dropped}

-- so many were heard: these calls were made for them, and the rest is due to the board as it is
abbrev pub IsHeard : List Question → ℕ → (first board : Board)
    → (told mid : Option (List TargetCall)) → Type 0
IsHeard asked i first board told mid = (done : List TargetCall) × Adds told mid done
    × (all_due asked first ≡ done ++ all_due (drop i asked) board)
    × (all_noted asked first ≡ all_noted (drop i asked) board)

pub heard_none : (asked : List Question) (board : Board) (told : Option (List TargetCall))
    → IsHeard asked 0 board board told told
heard_none asked board told = ([], adds_nil told, refl, refl)

-- the next one
next_due : (asked : List Question) (i : ℕ) (question : Question) (board : Board)
    → i < length asked → question ≡ slice_index_or asked i question
    → all_due (drop i asked) board
    ≡ due_on question board.connections ++ all_due (drop (suc i) asked) (noted question board)
next_due asked i question board few is =
    ap (λ l. all_due l board) (dropped asked i question few is)

pub heard_more : (asked : List Question) (i : ℕ) (question : Question) (first board board' : Board)
    (told mid told' : Option (List TargetCall)) → i < length asked
    → question ≡ slice_index_or asked i question → IsHeard asked i first board told mid
    → board' ≡ noted question board → Adds mid told' (due_on question board.connections)
    → IsHeard asked (i + 1) first board' told told'
heard_more asked i question first board board' told mid told' few is (done, adds, due, was) board_is
    more =
    let one = due_on question board.connections in
    let rest = drop (suc i) asked in
    let next : suc i ≡ i + 1 = omega arith in
    subst (λ n. IsHeard asked n first board' told told') next (
      done ++ one,
      adds_both told mid told' done one adds more,
      due ∙ (ap (λ l. done ++ l) (next_due asked i question board few is)
          ∙ (sym (append_assoc done one (all_due rest (noted question board)))
          ∙ ap (λ b. (done ++ one) ++ all_due rest b) (sym board_is))),
      was ∙ (ap (λ l. all_noted l board) (dropped asked i question few is)
          ∙ ap (all_noted rest) (sym board_is)),
    )

pub heard_all : (asked : List Question) (i : ℕ) (first board : Board)
    (told mid : Option (List TargetCall)) → length asked ≤ i → IsHeard asked i first board told mid
    → (board ≡ all_noted asked first) × Adds told mid (all_due asked first)
heard_all asked i first board told mid all (done, adds, due, was) =
    let none = drop_all i asked all in (
      sym (was ∙ ap (λ l. all_noted l board) none),
      subst (Adds told mid)
          (sym (due ∙ (ap (λ l. done ++ all_due l board) none ∙ append-nil done))) adds,
    )

pub heard_part : (fault : TargetFault) (asked : List Question) (i : ℕ) (question : Question)
    (first board : Board) (told mid told' : Option (List TargetCall)) → i < length asked
    → question ≡ slice_index_or asked i question → IsHeard asked i first board told mid
    → FailsTelling fault (due_on question board.connections) mid told'
    → FailsTelling fault (all_due asked first) told told'
heard_part fault asked i question first board told mid told' few is (done, adds, due, was) fails =
    let one = due_on question board.connections in
    let rest = all_due (drop (suc i) asked) (noted question board) in
    subst (λ all. FailsTelling fault all told told')
    (sym (due ∙ ap (λ l. done ++ l) (next_due asked i question board few is)))
    (fails_behind fault done (one ++ rest) told mid told' adds
    (fails_more fault one rest mid told' fails))

-- ---- behind an input

-- what was kept is what the notebook has
kept_is : (notebook : Option (List Question)) (asked questions : List Question)
    → IfSome notebook (λ all. asked ≡ all) → notebook ≡ Some questions → asked ≡ questions
kept_is notebook asked questions reads is = subst (λ n. IfSome n (λ all. asked ≡ all)) is reads

pub delivered : (notebook : Option (List Question)) (asked questions : List Question)
    (board board' : Board) (closes : Option ℕ) (told told' : Option (List TargetCall))
    → IfSome notebook (λ all. asked ≡ all) → board' ≡ all_noted asked board
    → Adds told told' (closed_to closes ++ all_due asked board) → notebook ≡ Some questions
    → (board' ≡ all_noted questions board)
    × Adds told told' (closed_to closes ++ all_due questions board)
delivered notebook asked questions board board' closes told told' reads noted tells is =
    let same = kept_is notebook asked questions reads is in (
      subst (λ all. board' ≡ all_noted all board) same noted,
      subst (λ all. Adds told told' (closed_to closes ++ all_due all board)) same tells,
    )

pub undelivered : (fault : TargetFault) (notebook : Option (List Question))
    (asked questions : List Question) (board : Board) (closes : Option ℕ)
    (told told' : Option (List TargetCall)) → IfSome notebook (λ all. asked ≡ all)
    → FailsTelling fault (closed_to closes ++ all_due asked board) told told'
    → notebook ≡ Some questions
    → FailsTelling fault (closed_to closes ++ all_due questions board) told told'
undelivered fault notebook asked questions board closes told told' reads fails is =
    subst (λ all. FailsTelling fault (closed_to closes ++ all_due all board) told told')
    (kept_is notebook asked questions reads is) fails
