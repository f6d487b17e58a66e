-- A box is taken apart by `into_raw_with_allocator`: what it owned is what its parts own.
use mathlib.Core.List.{List, [], ◌∷◌, ◌++◌}
use mathlib.Core.Path.{◌≡◌, refl, sym, subst, ap, ◌∙◌}
use seplogic.Ra.Ura.{Ura}
use mir.MapTy.{inst_fn}
use mir.Raw.{raw as bare}
use mir.Syntax.{Fn, Args, Dict, a_type, dcons, dnil}
use mir.Val.{Val, vstruct, of_list}
use base.Fml.{ftrue, fsep, flft}
use base.Logic.{SProp, ent, id⊢, never, fst∗}
use prog.Memory.{Memory}
use prog.Routine.{Routine}
use prog.Wp.{WpFn, Tables}
use contract.BorrowLft.{◌⊑◌}
use contract.Monad.{Fun, fact}
use contract.Running.{tables, tables_of}
use sound.WpLaws.{fm_of, WpFn-mono}
use types.ByLocal.{alloc_all, pass_all, free_all, look_at, get, get_in, sets, lands_as}
use types.Kit.{Item, ‵, raw, ◌⊛◌, some, later, ◌$◌, ◌∵◌, !, qed, by, move, drop, use1, join, split}
use types.Kit.{split3, pick, rewrite, fsplit, fjoin, fpick, feq_l, suffices, await, done}
use types.Logic.{Logic, sem}
use types.Part.{whole, sub, agg}
use types.Run.{stop, fld, no_more, and_then, of_opd, returns, enter}
use denote.Exit.{no}
use denote.Param.{bounded}
use denote.RattleType.{RattleType}
use denote.RawPtr.{Ptr, RawPtr, block_ptr, null_ptr, ptr_val, in_a_block}
use denote.Signature.{plain}
use denote.Steps.{heard, nothing, only}
use denote.Struct.Tuple.{Tuple}
use denote.Triple.Call.{calls_at}
use denote.Triple.Clauses.{Ended, Clauses}
use denote.Triple.Spec.{triple_of}
use denote.Triple.Statement.{Triple, Contract}
use denote.Triple.Table.{entered}
use denote.Triple.Walked.{says, Stays, stay_dropped, walk_of, ends_at, walk_Meets}
use Rattle.core.proofs.alloc.Calls.{token, handle_tells, Goes-blank}
use Rattle.std_alloc.specs.Box.Ownership.{box_owns}
use Rattle.std_alloc.proofs.BoxSteps.Form.{Bx, D, τ, R, P, B, word, box_typed}
use Rattle.std_alloc.proofs.BoxSteps.Steps.{box_out, box_in}
use Rattle.std_alloc.proofs.boxed.Box.into_raw_with_allocator.Met as opened_met
use Rattle.std_alloc.proofs.boxed.Box.into_raw_with_allocator.Symbol as opened_symbol
use Rattle.std_alloc.specs.contracts.boxed.Box.into_raw_with_allocator as opened
use Rattle.ssh_c.specs.contracts.parts.Parts as parts
use Rattle.ssh_c.specs.contracts.parts.Parts.of as take
use Rattle.ssh_c.specs.contracts.parts.Parts.of.Key.{name as symbol}
use Rattle.ssh_c.proofs.parts.Parts.of.Code as code
use Rattle.ssh_c.proofs.parts.Parts.of.Statement as stated

module _ (E : Bx) (drops : Dict) where
  abbrev args : Args
  args = bounded (a_type ∷ a_type ∷ []) (E.row, (E.al.row, tt))
      (dcons E.al.d (dcons E.al.drops (dcons drops dnil)))

  abbrev function : Fn
  function = inst_fn args code.function

  abbrev ended : Ended
  ended = take.ended E.row E.al.row E.al.g E.al.d E.al.drops drops

  abbrev param : Stays ended.signature.params ended.kept
  param = (stay_dropped (plain (λ _. B E)) no, tt)

  abbrev Made : RattleType
  Made = parts.the_row (R E) (P E) E.al.g

  module _ {M : Type 1} {𝓤 : Ura M} (𝓛 : Logic 𝓤) (mem : Memory → SProp 𝓤)
      (run : Routine → Fun 𝓤) (𝓣 : Tables 𝓤 𝓛.H)
    where
      open 𝓛 use {H}

      abbrev clauses : Clauses 𝓤 ended
      clauses = take.clauses E.row E.al.row E.al.g E.al.d E.al.drops drops 𝓛 mem run

      abbrev Opens : Contract 𝓤
      Opens = triple_of 𝓛 (opened.signature E.row E.al.row E.al.g E.al.d E.al.drops drops)
          (opened.spec E.row E.al.row E.al.g E.al.d E.al.drops drops 𝓛 mem run)

      walk : Triple 𝓤 (𝓣.C (opened_symbol.name args)) Opens
          → (z : (walk_of 𝓛 ended param clauses).Ghost)
          → ent 𝓤 ((walk_of 𝓛 ended param clauses).pre z)
          (WpFn 𝓤 H 𝓣.C 𝓣.Λ function (z.0.4.0 ++ []) ((walk_of 𝓛 ended param clauses).post z))
      walk known z =
          let κs = z.0.0 in
          let qs = z.0.1 in
          let boxed = z.0.3.0 in
          let alloc = boxed.alloc in
          let after = (walk_of 𝓛 ended param clauses).post z in
          let tokens : Item 𝓤 = ‵ (flft κs.0 qs.0) ⊛ ‵ (flft κs.1.0 qs.1.0) ⊛ ‵ ftrue in
          let alive : Item 𝓤 = raw (fact 𝓤 (κs.0 ⊑ E.row.lives)) ⊛
          raw (fact 𝓤 (κs.1.0 ⊑ E.al.row.lives)) ⊛ ‵ ftrue in
          qed 𝓛 ((tokens ⊛ ‵ (fsep ((B E).own_val boxed z.0.4.0) ftrue)) ∷ alive ∷ []) ∵
          split ! $ move ! (1 ∷ []) $ fsplit ! $
          box_out E ! boxed z.0.4.0 (λ block offset handle same is fits.
          box_in E ! boxed block offset boxed.value same refl $
          let value = word E handle block offset in
          let call : Opens.Ghost = ((κs, qs, tt, (boxed, tt), (value ∷ [], tt)), tt) in
          let owned : List (Item 𝓤) = ‵ ((B E).own_val boxed (value ∷ [])) ∷ ‵ ftrue ∷ tokens ∷
          alive ∷ [] in
          by ! (subst (λ (values : List Val). ent 𝓤 (types.Kit.⋆ 𝓛 owned)
          (WpFn 𝓤 H 𝓣.C 𝓣.Λ function (values ++ []) after)) (sym is)
          (qed 𝓛 owned ∵ enter ! 𝓣.C 𝓣.Λ function (value ∷ []) _ $
          alloc_all ! (λ ls. pass_all ! refl (box_typed E handle block offset fits, tt) $
          sets ! (of_opd ! (get ! refl)) refl (box_typed E handle block offset fits) $
          fjoin ! $ move ! (1 ∷ 0 ∷ []) $ join ! $ join ! $ use1 𝓛 (raw (Opens.pre call)) (id⊢ 𝓤 _) $
          calls_at ! (fm_of 𝓤 H 𝓛.laws 𝓣) Opens known call (and_then ! (get ! refl) (no_more !))
          (λ answer.
          use1 𝓛 (later (some (λ (pair : Ptr × E.al.row.Denot).
          (tokens ⊛ ‵ ((Tuple (RawPtr ∷ P E ∷ [])).own_val pair (answer ∷ []))) ⊛
          some (λ (_ : (Unit {0} × (Unit {0} × Unit {0})) × Unit {0}).
          ‵ (fsep (fsep ftrue (fsep ftrue ftrue)) ftrue) ⊛
          (raw (fact 𝓤 (pair.1 ≡ alloc)) ⊛
          ‵ (box_owns (token E.al alloc) (R E) pair.0 boxed.value)))))) (id⊢ 𝓤 _) $
          await ! tt $ pick ! (λ pair. split ! $ move ! (1 ∷ []) $ pick ! (λ _. split3 ! $ drop ! $
          heard ! (pair.1 ≡ alloc) (λ same_alloc.
          in_a_block ! pair.0 (λ at. box_owns (token E.al alloc) (R E) at boxed.value)
          (fst∗ 𝓤 (never 𝓤) (sem 𝓛 (token E.al alloc (bare (τ E)) null_ptr))) (λ block' offset' here.
          move ! (1 ∷ []) $ split ! $ move ! (1 ∷ []) $ fpick ! (λ fields.
          fsplit ! $ feq_l ! (λ is_pair. fsplit ! $ feq_l ! (λ is_place. fsplit ! $
          rewrite ! 0 (λ (s : E.al.row.Denot). ‵ (E.al.row.own_val s fields.1.0)) same_alloc refl $
          handle_tells E.al ! alloc fields.1.0 (λ handle' is_handle fits'.
          let apart : D E = record {
            ptr = block_ptr block' offset';
            alloc = alloc;
            value = boxed.value;
          } in
          let made : Made.Denot = record {
            place = block_ptr block' offset';
            alloc = alloc;
            value = boxed.value;
          } in
          lands_as ! (ap only (is_pair ∙ (λ j. vstruct (of_list
          ((is_place ∙ ap (λ (at : Ptr). ptr_val at ∷ []) here) j ++ (is_handle j ++ []))) ∷ [])))
          refl (box_typed E handle' block' offset' fits') $
          sets ! (of_opd ! (get_in ! (fld ! refl (stop !)) (sub ! 0 refl (whole !)))) refl (tt, tt) $
          sets ! (of_opd ! (get_in ! (fld ! refl (stop !)) (sub ! 1 refl (whole !)))) refl fits' $
          sets ! (of_opd ! (get ! refl)) refl fits' $
          sets ! (agg ! (and_then ! (get ! refl) (and_then ! (get ! refl) (no_more !)))) refl
          (box_typed E handle' block' offset' fits') $
          returns ! (look_at ! 0 refl) $ free_all ! refl $
          -- the handle, true, the tokens, and the value with its own
          move ! (3 ∷ []) $ fsplit ! $ box_in E ! apart block' offset' boxed.value refl refl $
          use1 𝓛 (‵ (Made.own_val made (word E handle' block' offset' ∷ []))) (id⊢ 𝓤 _) $
          move ! (1 ∷ []) $ drop ! $
          suffices ! _ (ends_at 𝓛 ended param clauses z (word E handle' block' offset') made
          ((tt, (tt, tt)), tt) (tt, tt)) $ says ! refl $
          nothing ! $ nothing ! $ fjoin ! $ join ! $ move ! (1 ∷ 0 ∷ []) $ join ! $
          done !)))))))))))))

pub of_spec : {M : Type 1} → stated.statement M
unfolding tables_of
of_spec 𝓤 𝓛 𝓜 𝓡 wired X Z LX LZ g d dd dx allocator md glue =
    let E : Bx = record {
      row = X;
      laws = LX;
      al = record { row = Z; laws = LZ; g = g; d = d; drops = dd };
    } in
    let 𝓣 : Tables 𝓤 𝓛.H = tables_of 𝓤 𝓛.H 𝓜 (tables 𝓤 𝓛.H 𝓜 𝓡 𝓡.env) in
    let fn = function E dx in
    entered 𝓤 𝓛.H (triple_of 𝓛 (ended E dx).signature (take.spec X Z g d dd dx 𝓛 𝓜.mem 𝓡.returns))
    𝓣.C 𝓣.Λ (symbol (args E dx)) fn (code.unfolded 𝓤 𝓛.H 𝓜 𝓡 wired (X, (Z, tt)) d dd dx)
    (walk_Meets 𝓛 (ended E dx) (param E dx)
    (Goes-blank 𝓛 2 (plain (λ _. B E)) no (λ κs x f. tt), tt)
    (clauses E dx 𝓛 𝓜.mem 𝓡.returns 𝓣) (WpFn 𝓤 𝓛.H 𝓣.C 𝓣.Λ fn) (WpFn-mono 𝓤 𝓛.H 𝓛.laws 𝓣 fn)
    (walk E dx 𝓛 𝓜.mem 𝓡.returns 𝓣
    (opened_met.met 𝓤 𝓛 𝓜 𝓡
    (code.calls-std_alloc::boxed::Box::into_raw_with_allocator 𝓡.env wired) X Z LX LZ g d dd dx
    allocator md glue)))
