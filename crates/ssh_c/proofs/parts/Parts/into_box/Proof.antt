-- The parts are put together by `from_raw`: what they own is what it asks for.
use mathlib.Core.List.{List, [], ◌∷◌, ◌++◌}
use mathlib.Core.Path.{◌≡◌, refl, sym, subst, ap}
use lib.Dec.{T}
use seplogic.Ra.Ura.{Ura}
use mir.MapTy.{inst_fn}
use mir.Syntax.{Fn, Body, place, copy, assign, rv_opd, seq, return}
use mir.Val.{Val, vptr, has_ty, WT}
use base.Fml.{ftrue, fsep, flft}
use base.Logic.{SProp, ent, id⊢}
use prog.Memory.{Memory}
use prog.Routine.{Routine}
use prog.Wp.{WpFn, Tables}
use contract.BorrowLft.{◌⊑◌}
use contract.Monad.{Fun, fact}
use contract.Running.{tables, tables_of}
use sound.WpLaws.{fm_of, WpFn-mono}
use types.ByLocal.{alloc_all, pass_all, free_all, look_at, get, get_in, sets, lands_last, env}
use types.Kit.{Item, at_ret, ‵, raw, ◌⊛◌, some, later, ◌$◌, ◌∵◌, !, qed, by, move, drop, use1, join}
use types.Kit.{split, split3, pick, rewrite, fsplit, fjoin, feq_i, suffices, await, done}
use types.Logic.{Logic}
use types.Part.{whole, sub}
use types.Run.{stop, fld, no_more, and_then, of_opd, returns, enter, first, blocks, exec}
use denote.Exit.{no}
use denote.RattleType.{RattleType}
use denote.RawPtr.{block_ptr}
use denote.Signature.{plain}
use denote.Steps.{heard, nothing, only}
use denote.Triple.Call.{calls_at_last}
use denote.Triple.Clauses.{Ended, Clauses}
use denote.Triple.Spec.{triple_of}
use denote.Triple.Statement.{Triple, Contract}
use denote.Triple.Table.{entered}
use denote.Triple.Walked.{says, Stays, stay_dropped, walk_of, ends_at, walk_Meets}
use Rattle.core.proofs.alloc.Calls.{token, Goes-blank}
use Rattle.std_alloc.specs.Box.Ownership.{box_owns}
use Rattle.std_alloc.proofs.BoxSteps.Form.{Bx, D, R, P, B, args, box_ty, word, box_typed}
use Rattle.std_alloc.proofs.BoxSteps.Steps.{box_out, box_in}
use Rattle.std_alloc.proofs.boxed.Box.from_raw.Met as shut_met
use Rattle.std_alloc.proofs.boxed.Box.from_raw.Symbol as shut_symbol
use Rattle.std_alloc.specs.contracts.boxed.Box.from_raw as shut
use Rattle.ssh_c.specs.contracts.parts.Parts as parts
use Rattle.ssh_c.specs.contracts.parts.Parts.into_box as build
use Rattle.ssh_c.specs.contracts.parts.Parts.into_box.Key.{name as symbol}
use Rattle.ssh_c.proofs.parts.Parts.into_box.Code as code
use Rattle.ssh_c.proofs.parts.Parts.into_box.Statement as stated

-- what is left to do behind the block
abbrev behind : Body
behind = seq (assign (place 0 []) (rv_opd (copy (place 4 [])))) return

module _ (E : Bx) where
  abbrev function : Fn
  function = inst_fn (args E) code.function

  abbrev ended : Ended
  ended = build.ended E.row E.al.row E.al.g E.al.d E.al.drops

  abbrev Given : RattleType
  Given = parts.the_row (R E) (P E) E.al.g

  abbrev param : Stays ended.signature.params ended.kept
  param = (stay_dropped (plain (λ _. Given)) no, tt)

  module _ {M : Type 1} {𝓤 : Ura M} (𝓛 : Logic 𝓤) (mem : Memory → SProp 𝓤)
      (run : Routine → Fun 𝓤) (𝓣 : Tables 𝓤 𝓛.H)
    where
      open 𝓛 use {H}

      abbrev clauses : Clauses 𝓤 ended
      clauses = build.clauses E.row E.al.row E.al.g E.al.d E.al.drops 𝓛 mem run

      abbrev Shuts : Contract 𝓤
      Shuts = triple_of 𝓛 (shut.signature E.row E.al.row E.al.g E.al.d E.al.drops)
          (shut.spec E.row E.al.row E.al.g E.al.d E.al.drops 𝓛 mem run)

      walk : Triple 𝓤 (𝓣.C (shut_symbol.name (args E))) Shuts
          → (z : (walk_of 𝓛 ended param clauses).Ghost)
          → ent 𝓤 ((walk_of 𝓛 ended param clauses).pre z)
          (WpFn 𝓤 H 𝓣.C 𝓣.Λ function (z.0.4.0 ++ []) ((walk_of 𝓛 ended param clauses).post z))
      walk known z =
          let κs = z.0.0 in
          let qs = z.0.1 in
          let given = z.0.3.0 in
          let alloc = given.alloc in
          let inside = given.value in
          let after = (walk_of 𝓛 ended param clauses).post z in
          let boxed : D E = record { ptr = given.place; alloc = alloc; value = inside } in
          let tokens : Item 𝓤 = ‵ (flft κs.0 qs.0) ⊛ ‵ (flft κs.1.0 qs.1.0) ⊛ ‵ ftrue in
          let lives : Item 𝓤 = raw (fact 𝓤 (κs.0 ⊑ E.row.lives)) in
          let alloc_lives : Item 𝓤 = raw (fact 𝓤 (κs.1.0 ⊑ E.al.row.lives)) in
          qed 𝓛 ((tokens ⊛ ‵ (fsep ((B E).own_val boxed z.0.4.0) ftrue)) ∷
          (lives ⊛ alloc_lives ⊛ ‵ ftrue) ∷ []) ∵ split ! $ move ! (1 ∷ []) $ fsplit ! $
          box_out E ! boxed z.0.4.0 (λ block offset handle same is fits. fjoin ! $
          let value = word E handle block offset in
          let call : Shuts.Ghost = (
            (
              κs,
              qs,
              tt,
              (alloc, (block_ptr block offset, tt)),
              (handle ∷ [], (vptr block offset ∷ [], tt)),
            ),
            inside,
          ) in
          let owned : List (Item 𝓤) =
          ‵ (box_owns (token E.al alloc) (R E) (block_ptr block offset) inside) ∷
          ‵ ((P E).own_val alloc (handle ∷ [])) ∷ ‵ ftrue ∷ tokens ∷
          (lives ⊛ alloc_lives ⊛ ‵ ftrue) ∷ [] in
          by ! (subst (λ (values : List Val). ent 𝓤 (types.Kit.⋆ 𝓛 owned)
          (WpFn 𝓤 H 𝓣.C 𝓣.Λ function (values ++ []) after)) (sym is)
          (qed 𝓛 owned ∵ enter ! 𝓣.C 𝓣.Λ function (value ∷ []) _ $
          alloc_all ! (λ ls. pass_all ! refl (box_typed E handle block offset fits, tt) $
          sets ! (of_opd ! (get_in ! (fld ! refl (stop !)) (sub ! 0 refl (whole !)))) refl (tt, tt) $
          sets ! (of_opd ! (get_in ! (fld ! refl (stop !)) (sub ! 1 refl (whole !)))) refl fits $
          first ! $ blocks ! $ sets ! (of_opd ! (get ! refl)) refl fits $
          move ! (4 ∷ []) $ split3 ! $ move ! (2 ∷ []) $ drop ! $ move ! (1 ∷ 2 ∷ []) $ join ! $
          move ! (1 ∷ 0 ∷ []) $ join ! $
          -- what it asks for, the handle, true, the tokens
          move ! (2 ∷ []) $ feq_i ! (List Val) (vptr block offset ∷ []) (vptr block offset ∷ []) refl $
          fjoin ! $ move ! (2 ∷ 0 ∷ []) $ fjoin ! $ move ! (2 ∷ 0 ∷ []) $ join ! $ join ! $
          use1 𝓛 (raw (Shuts.pre call)) (id⊢ 𝓤 _) $
          calls_at_last ! (fm_of 𝓤 H 𝓛.laws 𝓣) Shuts known call
          (and_then ! (get ! refl) (and_then ! (get ! refl) (no_more !))) (λ answer.
          use1 𝓛 (later (some (λ (made : D E). (tokens ⊛ ‵ ((B E).own_val made (answer ∷ []))) ⊛
          some (λ (_ : Unit {0} × (Unit {0} × Unit {0})). ‵ (fsep ftrue (fsep ftrue ftrue)) ⊛
          (raw (fact 𝓤 (made.value ≡ inside)) ⊛ raw (fact 𝓤 (made.alloc ≡ alloc))))))) (id⊢ 𝓤 _) $
          await ! tt $ pick ! (λ made. split ! $ move ! (1 ∷ []) $ pick ! (λ _. split3 ! $ drop ! $
          heard ! (made.value ≡ inside) (λ same_value. drop ! $ split ! $ move ! (1 ∷ []) $
          box_out E ! made (answer ∷ []) (λ block' offset' handle' same' is' fits'.
          box_in E ! made block' offset' made.value same' refl $
          rewrite ! 0 (λ (values : List Val). ‵ ((B E).own_val made values)) (sym is') refl $
          let typed : T (has_ty (box_ty E) answer) × WT answer =
          subst (λ (s : Val). T (has_ty (box_ty E) s) × WT s) (sym (ap only is'))
          (box_typed E handle' block' offset' fits') in
          lands_last ! refl typed $
          exec ! 𝓣.C 𝓣.Λ (env function.locals ls) behind (at_ret (env function.locals ls) after) $
          sets ! (of_opd ! (get ! refl)) refl typed $ returns ! (look_at ! 0 refl) $ free_all ! refl $
          suffices ! _ (ends_at 𝓛 ended param clauses z answer made ((tt, (tt, tt)), tt) (tt, tt)) $
          says ! same_value $
          nothing ! $ nothing ! $ fjoin ! $ join ! $ move ! (1 ∷ 0 ∷ []) $ join ! $ done !)))))))))

pub into_box_spec : {M : Type 1} → stated.statement M
unfolding tables_of
into_box_spec 𝓤 𝓛 𝓜 𝓡 wired X Z LX LZ g d dd allocator md =
    let E : Bx = record {
      row = X;
      laws = LX;
      al = record { row = Z; laws = LZ; g = g; d = d; drops = dd };
    } in
    let 𝓣 : Tables 𝓤 𝓛.H = tables_of 𝓤 𝓛.H 𝓜 (tables 𝓤 𝓛.H 𝓜 𝓡 𝓡.env) in
    let fn = function E in
    entered 𝓤 𝓛.H (triple_of 𝓛 (ended E).signature (build.spec X Z g d dd 𝓛 𝓜.mem 𝓡.returns))
    𝓣.C 𝓣.Λ (symbol (args E)) fn (code.unfolded 𝓤 𝓛.H 𝓜 𝓡 wired (X, (Z, tt)) d dd)
    (walk_Meets 𝓛 (ended E) (param E) (Goes-blank 𝓛 2 (plain (λ _. Given E)) no (λ κs x f. tt), tt)
    (clauses E 𝓛 𝓜.mem 𝓡.returns 𝓣) (WpFn 𝓤 𝓛.H 𝓣.C 𝓣.Λ fn) (WpFn-mono 𝓤 𝓛.H 𝓛.laws 𝓣 fn)
    (walk E 𝓛 𝓜.mem 𝓡.returns 𝓣
    (shut_met.met 𝓤 𝓛 𝓜 𝓡 (code.calls-std_alloc::boxed::Box::from_raw 𝓡.env wired) X Z LX LZ g d dd
    allocator md)))
