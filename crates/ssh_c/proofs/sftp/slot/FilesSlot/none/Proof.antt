-- A null pointer owns nothing, and what a slot has of the allocator is what came in.
use Rattle.std.specs.Prelude.{None}
use mathlib.Core.List.{List, [], ◌∷◌, ◌++◌}
use mathlib.Core.Path.{refl, sym, subst}
use lib.Dec.{lit<}
use seplogic.Ra.Ura.{Ura}
use mir.Syntax.{w64}
use mir.Val.{Val, has_ty, vint, vstruct, vcons, vnil}
use base.Fml.{ftrue, fsep}
use base.Logic.{SProp, ent, emp, id⊢}
use prog.Memory.{Memory}
use prog.Routine.{Routine}
use prog.Wp.{WpFn, Tables}
use contract.Monad.{Fun}
use contract.Running.{tables, tables_of}
use sound.WpLaws.{WpFn-mono}
use types.ByLocal.{alloc_all, pass_all, free_all, look_at, get, sets}
use types.Kit.{Item, ‵, raw, ◌⊛◌, ◌$◌, ◌∵◌, !, qed, by, move, drop, use1, join, split, fsplit, fjoin}
use types.Kit.{fpack, feq_i, suffices, done}
use types.Logic.{Logic}
use types.Part.{agg}
use types.Run.{lit, no_more, and_then, returns, enter}
use denote.Builtin.{RawPtr}
use denote.Exit.{yes}
use denote.RattleType.{Valss}
use denote.RawPtr.{null_ptr, ptr_val}
use denote.Signature.{type_at, plain}
use denote.Steps.{nothing}
use denote.Struct.Owning.{shape, to}
use denote.Struct.Struct.{within}
use denote.Triple.Spec.{triple_of}
use denote.Triple.Table.{entered}
use denote.Triple.Walked.{says, Stays, stay_dropped, walk_of, ends_at, Goes-dropped, walk_Meets}
use Rattle.core.proofs.alloc.Calls.{α, handle_tells}
use Rattle.std_alloc.proofs.ResultValues.{and_tt}
use Rattle.std_heap.specs.contracts.Global as global
use Rattle.ssh_c.specs.contracts.sftp.slot.FilesSlot as place
use Rattle.ssh_c.proofs.TheFiles.{whole}
use Rattle.ssh_c.specs.contracts.sftp.slot.FilesSlot.none as none
use Rattle.ssh_c.specs.contracts.sftp.slot.FilesSlot.none.Key.{name as symbol}
use Rattle.ssh_c.proofs.sftp.slot.FilesSlot.none.Code as code
use Rattle.ssh_c.proofs.sftp.slot.FilesSlot.none.Statement as stated

abbrev param : Stays (none.ended).signature.params (none.ended).kept
param = (stay_dropped (plain (λ _. global.the_row)) yes, tt)

module _ {M : Type 1} {𝓤 : Ura M} (𝓛 : Logic 𝓤) (mem : Memory → SProp 𝓤) (run : Routine → Fun 𝓤)
    (𝓣 : Tables 𝓤 𝓛.H)
  where
    open 𝓛 use {H}

    walk : (z : (walk_of 𝓛 none.ended param (none.clauses 𝓛 mem run)).Ghost)
        → ent 𝓤 ((walk_of 𝓛 none.ended param (none.clauses 𝓛 mem run)).pre z)
        (WpFn 𝓤 H 𝓣.C 𝓣.Λ code.function (z.0.4.0 ++ [])
        ((walk_of 𝓛 none.ended param (none.clauses 𝓛 mem run)).post z))
    walk z =
        let after = (walk_of 𝓛 none.ended param (none.clauses 𝓛 mem run)).post z in
        let alloc = z.0.3.0 in
        let R = type_at (none.signature).result tt in
        let empty : R.Denot = record { at = null_ptr; alloc = alloc; held = None } in
        qed 𝓛 ((‵ ftrue ⊛ ‵ (fsep (global.the_row.own_val alloc z.0.4.0) ftrue)) ∷ raw (emp 𝓤) ∷ []) ∵
        split ! $ drop ! $ fsplit ! $
        handle_tells whole.al ! alloc z.0.4.0 (λ value is fits.
        let made : Val = vstruct (vcons (vint w64 0) (vcons value vnil)) in
        move ! (1 ∷ 0 ∷ []) $ nothing ! $ move ! (2 ∷ 0 ∷ []) $
        fjoin ! $ feq_i ! (List Val) (vint w64 0 ∷ []) (ptr_val null_ptr ∷ []) refl $
        fjoin ! $ feq_i ! (List Val) (made ∷ []) (made ∷ []) refl $
        fjoin ! $ fpack ! (Valss (RawPtr ∷ global.the_field.row ∷ []))
        (within (shape place.the_type) (to place.the_type empty) (made ∷ []))
        (vint w64 0 ∷ [], (value ∷ [], tt)) $ fjoin ! $
        use1 𝓛 (‵ (R.own_val empty (made ∷ []))) (id⊢ 𝓤 _) $ move ! (1 ∷ []) $ drop ! $
        let owned : List (Item 𝓤) = ‵ (R.own_val empty (made ∷ [])) ∷ [] in
        by ! (subst (λ (values : List Val). ent 𝓤 (types.Kit.⋆ 𝓛 owned)
        (WpFn 𝓤 H 𝓣.C 𝓣.Λ code.function (values ++ []) after)) (sym is)
        (qed 𝓛 owned ∵ enter ! 𝓣.C 𝓣.Λ code.function (value ∷ []) _ $
        alloc_all ! (λ ls. pass_all ! refl (fits, tt) $
        sets ! (agg ! (and_then ! (lit ! tt) (and_then ! (get ! refl) (no_more !)))) refl
        (and_tt (has_ty (α whole.al) value) fits.0, (record { fits = lit< tt }, (fits.1, tt))) $
        returns ! (look_at ! 0 refl) $ free_all ! refl $
        suffices ! _ (ends_at 𝓛 none.ended param (none.clauses 𝓛 mem run) z made empty (tt, tt)
        (tt, tt)) $ says ! refl $
        nothing ! $ nothing ! $ fjoin ! $ join ! $ nothing ! $ join ! $ done !))))

pub none_spec : {M : Type 1} → stated.statement M
unfolding tables_of
none_spec 𝓤 𝓛 𝓜 𝓡 wired =
    let 𝓣 : Tables 𝓤 𝓛.H = tables_of 𝓤 𝓛.H 𝓜 (tables 𝓤 𝓛.H 𝓜 𝓡 𝓡.env) in
    entered 𝓤 𝓛.H (triple_of 𝓛 none.signature (none.spec 𝓛 𝓜.mem 𝓡.returns)) 𝓣.C 𝓣.Λ symbol
    code.function (code.unfolded 𝓤 𝓛.H 𝓜 𝓡 wired)
    (walk_Meets 𝓛 none.ended param
    (Goes-dropped 𝓛 0 (plain (λ _. global.the_row)) yes (λ κs x f. refl), tt)
    (none.clauses 𝓛 𝓜.mem 𝓡.returns) (WpFn 𝓤 𝓛.H 𝓣.C 𝓣.Λ code.function)
    (WpFn-mono 𝓤 𝓛.H 𝓛.laws 𝓣 code.function) (walk 𝓛 𝓜.mem 𝓡.returns 𝓣))
