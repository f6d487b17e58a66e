-- A full slot owns a box: its two fields move over, the pointer by a cast, and with them what they
-- own.
use Rattle.std.specs.Prelude.{◌≡◌, Option, Some, None, IsSome}
use mathlib.Core.Bool.{Bool, true, false}
use mathlib.Core.List.{List, [], ◌∷◌, ◌++◌}
use mathlib.Core.Path.{refl, sym, subst}
use seplogic.Ra.Ura.{Ura}
use mir.Val.{Val}
use base.Fml.{ftrue, fsep}
use base.Logic.{SProp, ent, id⊢}
use prog.Memory.{Memory}
use prog.Routine.{Routine}
use prog.Wp.{WpFn, Tables}
use contract.Monad.{Fun, fact}
use contract.Running.{tables, tables_of}
use sound.WpLaws.{WpFn-mono}
use types.ByLocal.{alloc_all, pass_all, free_all, look_at, get, get_in, sets}
use types.Kit.{Item, rewrite, ‵, raw, ◌⊛◌, ◌$◌, ◌∵◌, !, qed, by, move, drop, use1, join, split}
use types.Kit.{fsplit, fjoin, suffices, done}
use types.Logic.{Logic}
use types.Part.{whole as all_of, sub, agg}
use types.Run.{stop, fld, no_more, and_then, of_opd, returns, enter}
use denote.Exit.{yes}
use denote.Signature.{type_at}
use denote.Steps.{nothing, heard}
use denote.Triple.Spec.{triple_of}
use denote.Triple.Table.{entered}
use denote.Triple.Walked.{says, Stays, stay_dropped, walk_of, ends_at, Goes-dropped, walk_Meets}
use Rattle.std_alloc.proofs.BoxSteps.Form.{D, B, word, box_typed}
use Rattle.std_alloc.proofs.BoxSteps.Steps.{box_out, box_in}
use Rattle.ssh_c.proofs.TheFiles.{whole, as_slot}
use Rattle.ssh_c.specs.contracts.sftp.slot.FilesSlot as place
use Rattle.ssh_c.specs.contracts.sftp.slot.FilesSlot.into_parts as over
use Rattle.ssh_c.specs.contracts.sftp.slot.FilesSlot.into_parts.Key.{name as symbol}
use Rattle.ssh_c.proofs.sftp.slot.FilesSlot.into_parts.Code as code
use Rattle.ssh_c.proofs.sftp.slot.FilesSlot.into_parts.Statement as stated

IsThere : Bool → Type 0
IsThere false = Unit {0}
IsThere true = ⊥

value_of : {A : Type 0} (option : Option A) → IsSome option → (value : A) × (option ≡ Some value)
unfolding IsThere
value_of None there = absurd (subst IsThere there tt)
value_of (Some value) there = (value, refl)

abbrev param : Stays (over.ended).signature.params (over.ended).kept
param = (stay_dropped as_slot yes, tt)

module _ {M : Type 1} {𝓤 : Ura M} (𝓛 : Logic 𝓤) (mem : Memory → SProp 𝓤) (run : Routine → Fun 𝓤)
    (𝓣 : Tables 𝓤 𝓛.H)
  where
    open 𝓛 use {H}

    walk : (z : (walk_of 𝓛 over.ended param (over.clauses 𝓛 mem run)).Ghost)
        → ent 𝓤 ((walk_of 𝓛 over.ended param (over.clauses 𝓛 mem run)).pre z)
        (WpFn 𝓤 H 𝓣.C 𝓣.Λ code.function (z.0.4.0 ++ [])
        ((walk_of 𝓛 over.ended param (over.clauses 𝓛 mem run)).post z))
    walk z =
        let after = (walk_of 𝓛 over.ended param (over.clauses 𝓛 mem run)).post z in
        let slot = z.0.3.0 in
        let R = type_at (over.signature).result tt in
        qed 𝓛 ((‵ ftrue ⊛ ‵ (fsep (place.the_row.own_val slot z.0.4.0) ftrue)) ∷
        raw (fact 𝓤 (IsSome slot.held)) ∷ []) ∵
        move ! (1 ∷ []) $ heard ! (IsSome slot.held) (λ there. split ! $ drop ! $ fsplit ! $
        let found = value_of slot.held there in
        let boxed : D whole = record { ptr = slot.at; alloc = slot.alloc; value = found.0 } in
        let parts : R.Denot = record { place = boxed.ptr; alloc = boxed.alloc; value = boxed.value } in
        rewrite ! 0 (λ held. ‵ (place.the_row.own_val
        (record { at = slot.at; alloc = slot.alloc; held = held }) z.0.4.0)) found.1 refl $
        use1 𝓛 (‵ ((B whole).own_val boxed z.0.4.0)) (id⊢ 𝓤 _) $
        box_out whole ! boxed z.0.4.0 (λ block offset handle same is fits.
        box_in whole ! boxed block offset boxed.value same refl $
        use1 𝓛 (‵ (R.own_val parts (word whole handle block offset ∷ []))) (id⊢ 𝓤 _) $
        move ! (1 ∷ 2 ∷ []) $ drop ! $ drop ! $
        let value = word whole handle block offset in
        let owned : List (Item 𝓤) = ‵ (R.own_val parts (value ∷ [])) ∷ [] in
        by ! (subst (λ (values : List Val). ent 𝓤 (types.Kit.⋆ 𝓛 owned)
        (WpFn 𝓤 H 𝓣.C 𝓣.Λ code.function (values ++ []) after)) (sym is)
        (qed 𝓛 owned ∵ enter ! 𝓣.C 𝓣.Λ code.function (value ∷ []) _ $
        alloc_all ! (λ ls. pass_all ! refl (box_typed whole handle block offset fits, tt) $
        sets ! (of_opd ! (get_in ! (fld ! refl (stop !)) (sub ! 0 refl (all_of !)))) refl (tt, tt) $
        sets ! (of_opd ! (get_in ! (fld ! refl (stop !)) (sub ! 1 refl (all_of !)))) refl fits $
        sets ! (of_opd ! (get ! refl)) refl (tt, tt) $
        sets ! (agg ! (and_then ! (get ! refl) (and_then ! (get ! refl) (no_more !)))) refl
        (box_typed whole handle block offset fits) $
        returns ! (look_at ! 0 refl) $ free_all ! refl $
        suffices ! _ (ends_at 𝓛 over.ended param (over.clauses 𝓛 mem run) z value parts (tt, tt)
        (tt, tt)) $ says ! found.1 $
        nothing ! $ nothing ! $ fjoin ! $ join ! $ nothing ! $ join ! $ done !)))))

pub into_parts_spec : {M : Type 1} → stated.statement M
unfolding tables_of
into_parts_spec 𝓤 𝓛 𝓜 𝓡 wired =
    let 𝓣 : Tables 𝓤 𝓛.H = tables_of 𝓤 𝓛.H 𝓜 (tables 𝓤 𝓛.H 𝓜 𝓡 𝓡.env) in
    entered 𝓤 𝓛.H (triple_of 𝓛 over.signature (over.spec 𝓛 𝓜.mem 𝓡.returns)) 𝓣.C 𝓣.Λ symbol
    code.function (code.unfolded 𝓤 𝓛.H 𝓜 𝓡 wired)
    (walk_Meets 𝓛 over.ended param (Goes-dropped 𝓛 0 as_slot yes (λ κs x f. refl), tt)
    (over.clauses 𝓛 𝓜.mem 𝓡.returns) (WpFn 𝓤 𝓛.H 𝓣.C 𝓣.Λ code.function)
    (WpFn-mono 𝓤 𝓛.H 𝓛.laws 𝓣 code.function) (walk 𝓛 𝓜.mem 𝓡.returns 𝓣))
