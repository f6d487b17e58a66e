-- The laws of the answers.
use Rattle.std.proofs.Common.{◌≡◌, ℕ, ◌+◌, ◌-◌, ◌<◌, ◌≤◌, ◌==◌, ◌++◌, not, Bool, true, false, List}
use Rattle.std.proofs.Common.{[], ◌∷◌, length}
use Rattle.std.proofs.Common.{take, drop, min, sym, ap, subst, refl, ◌∙◌, arith, append_assoc}
use Rattle.std.proofs.Common.{append-nil}
use Rattle.std.proofs.Common.{length-append, Option, Some, None, Ok, Err, cond}
use Rattle.std.specs.Prelude.{Result}
use Rattle.std.specs.Prelude.{if◌then◌else◌, nat_le, nat_lt, replicate, slice_index}
use Rattle.std.specs.FinMap as map
use Rattle.std.specs.FinMap.{get-insert}
use Rattle.std.specs.Cmp.{eq_by_cmp_equiv}
use Rattle.std.specs.Cmp.Lexicographic.{nat_list_cmp_total}
use Rattle.std.proofs.lemmas.List.{length-take, length-replicate, take_all, drop_all}
use Rattle.std.proofs.Math.Seq.{take-append_seam, drop-append_seam}
use Rattle.ssh_sftp_core.specs.declared.status.Status.{Status}
use Rattle.ssh_sftp_core.specs.declared.status.Status.TheVariants as status
use Rattle.ssh_sftp_core.specs.Files.{State, Opened, Outcome, says, refuses, changes, rooted}
use Rattle.ssh_sftp_core.specs.Files.{outcome, outcome_of, outcome_at, heard, gives, open_path}
use Rattle.ssh_sftp_core.specs.Files.{gives_none}
use Rattle.ssh_sftp_core.specs.Files.{opened_file, close_one, by_handle, file_of, file_under}
use Rattle.ssh_sftp_core.specs.Files.{opened_by}
use Rattle.ssh_sftp_core.specs.Files.{read_part, write_at, place_of, overwritten, stat_file}
use Rattle.ssh_sftp_core.specs.Files.{remove_file}
use Rattle.ssh_sftp_core.specs.Files.{rename_file}
use Rattle.ssh_sftp_core.specs.Layouts.{has}
use Rattle.ssh_sftp_core.specs.Requests.{Asked}
use Rattle.ssh_sftp_core.specs.Requests as ask
use Rattle.ssh_sftp_core.specs.Responses.{Told}
use Rattle.ssh_sftp_core.specs.Responses as tell
use Rattle.ssh_sftp_core.specs.Trees.{Tree}
use Rattle.ssh_sftp_core.specs.Laws.{told_to, given_by, AreCounted}

-- ---- a fact of every outcome, whatever comes of the tests before it

-- no handle is told
IsNoHandle : Told → Type 0
IsNoHandle (tell.Handle number) = ⊥
IsNoHandle _ = Unit {0}

one_of_three : (a b : Bool) (bytes : List ℕ)
    → IsNoHandle (if a then tell.Report status.Failure
    else if b then tell.Report status.Eof
    else tell.Data bytes)
unfolding IsNoHandle
one_of_three true b bytes = tt
one_of_three false true bytes = tt
one_of_three false false bytes = tt

no_handle_read : (flags : ℕ) (file : List ℕ) (offset most : ℕ)
    → IsNoHandle (read_part flags file offset most)
no_handle_read flags file offset most = one_of_three (not (has flags 1))
    (nat_le (length file) offset) (take (min most 65536) (drop offset file))

no_handle_size : (size : ℕ) → IsNoHandle (tell.Size size)
unfolding IsNoHandle
no_handle_size size = tt

no_handle_name : (path : List ℕ) → IsNoHandle (tell.Name path)
unfolding IsNoHandle
no_handle_name path = tt

no_handle_report : (why : Status) → IsNoHandle (tell.Report why)
unfolding IsNoHandle
no_handle_report why = tt

module _ (state : State) (P : Outcome → Type 0)
    (told : (reply : Told) → IsNoHandle reply → P (says state reply))
    (changed : (files : Tree) → P (changes state files))
    (given : (path : List ℕ) (flags : ℕ) (files : Tree) → P (gives state path flags (Ok files)))
    (closed : (one : Opened) → P (close_one state (Some one)))
    (begun : P (outcome state ask.Init)) where
  refused : (why : Status) → P (refuses state why)
  refused why = told (tell.Report why) (no_handle_report why)

  on_test : (b : Bool) (x y : Outcome) → P x → P y → P (if b then x else y)
  on_test true x y p q = p
  on_test false x y p q = q

  on_found : (found : Result (Opened × List ℕ) Status) (does : Opened → List ℕ → Outcome)
      → ((one : Opened) (file : List ℕ) → P (does one file))
      → P (elim found [ Err why ↦ refuses state why | Ok x ↦ does x.0 x.1 ])
  on_found (Ok x) does each = each x.0 x.1
  on_found (Err why) does each = refused why

  on_gives : (path : List ℕ) (flags : ℕ) (opened : Result Tree Status)
      → P (gives state path flags opened)
  on_gives path flags (Ok files) = given path flags files
  on_gives path flags (Err why) = refused why

  on_close : (o : Option Opened) → P (close_one state o)
  on_close None = refused status.Failure
  on_close (Some one) = closed one

  on_stat : (o : Option (List ℕ)) → P (stat_file state o)
  on_stat None = refused status.NoSuchFile
  on_stat (Some file) = told (tell.Size (length file)) (no_handle_size (length file))

  on_remove : (path : List ℕ) (o : Option (List ℕ)) → P (remove_file state path o)
  on_remove path None = refused status.NoSuchFile
  on_remove path (Some file) = changed (map.remove state.files path)

  on_rename : (old new : List ℕ) (o p : Option (List ℕ)) → P (rename_file state old new o p)
  on_rename old new None None = refused status.NoSuchFile
  on_rename old new None (Some other) = refused status.NoSuchFile
  on_rename old new (Some file) (Some other) = refused status.Failure
  on_rename old new (Some file) None =
      changed (map.insert (map.remove state.files old) new file)

  on_write : (place : ℕ) (bytes : List ℕ) (one : Opened) (file : List ℕ)
      → P (write_at state place bytes one file)
  on_write place bytes one file =
      on_test (not (has one.flags 2)) (refuses state status.Failure) _ (refused status.Failure)
      (on_test (length bytes == 0) (says state (tell.Report status.Ok)) _
      (told (tell.Report status.Ok) (no_handle_report status.Ok))
      (on_test (nat_lt 16777216 (place + length bytes)) (refuses state status.Failure)
      (changes state (map.insert state.files one.path (overwritten file place bytes)))
      (refused status.Failure)
      (changed (map.insert state.files one.path (overwritten file place bytes)))))

  on_outcome : (asked : Asked) → P (outcome state asked)
  on_outcome ask.Init = begun
  on_outcome (ask.Open path flags) =
      on_test (gives_none state (rooted path) flags) (refuses state status.Failure) _
      (refused status.Failure) (on_gives (rooted path) flags
      (opened_file state.files (rooted path) flags (map.get state.files (rooted path))))
  on_outcome (ask.Close handle) = on_close (opened_by state.handles handle)
  on_outcome (ask.Read handle offset most) =
      on_found (file_of state.files state.handles handle)
      (λ one file. says state (read_part one.flags file offset most))
      (λ one file. told (read_part one.flags file offset most)
      (no_handle_read one.flags file offset most))
  on_outcome (ask.Write handle offset bytes) =
      on_found (file_of state.files state.handles handle)
      (λ one file. write_at state (place_of one.flags (length file) offset) bytes one file)
      (λ one file. on_write (place_of one.flags (length file) offset) bytes one file)
  on_outcome (ask.Stat path) = on_stat (map.get state.files (rooted path))
  on_outcome (ask.Fstat handle) =
      on_found (file_of state.files state.handles handle) (λ one file. stat_file state (Some file))
      (λ one file. on_stat (Some file))
  on_outcome (ask.Remove path) = on_remove (rooted path) (map.get state.files (rooted path))
  on_outcome (ask.RealPath path) = told (tell.Name (rooted path)) (no_handle_name (rooted path))
  on_outcome (ask.Rename old new) = on_rename (rooted old) (rooted new)
      (map.get state.files (rooted old)) (map.get state.files (rooted new))

-- ---- a refusal changes nothing

IsHarmless : State → Outcome → Type 0
IsHarmless state outcome =
    (why : Status) → outcome.told ≡ tell.Report why → (why ≡ status.Ok → ⊥) → outcome.after ≡ state

-- an outcome that reports no refusal is harmless whatever it leaves
harmless_done : (state after : State) (reply : Told)
    → ((why : Status) → reply ≡ tell.Report why → why ≡ status.Ok)
    → IsHarmless state (record { told = reply; after = after })
unfolding IsHarmless
harmless_done state after reply only why is bad = absurd (bad (only why is))

harmless_says : (state : State) (reply : Told) → IsHarmless state (says state reply)
unfolding IsHarmless
harmless_says state reply why is bad = refl

only_ok : (why : Status) → tell.Report status.Ok ≡ tell.Report why → why ≡ status.Ok
only_ok why is = cc

no_report : (number : ℕ) (why : Status) → tell.Handle number ≡ tell.Report why → why ≡ status.Ok
no_report number why is = absurd (cc is)

no_version : (why : Status) → tell.Version ≡ tell.Report why → why ≡ status.Ok
no_version why is = absurd (cc is)

pub changes_nothing : (state : State) (asked : Asked) (why : Status)
    → (outcome state asked).told ≡ tell.Report why → (why ≡ status.Ok → ⊥)
    → (outcome state asked).after ≡ state
unfolding IsHarmless
changes_nothing state asked = on_outcome state (IsHarmless state)
    (λ reply _. harmless_says state reply)
    (λ files. harmless_done state _ (tell.Report status.Ok) only_ok)
    (λ path flags files. harmless_done state _ (tell.Handle (state.handles.count + 1))
    (no_report (state.handles.count + 1)))
    (λ one. harmless_done state _ (tell.Report status.Ok) only_ok)
    (harmless_done state _ tell.Version no_version)
    asked

-- ---- handles are counted up

-- what this tells of how many handles were given
Counts : (before : ℕ) → Told → (after : ℕ) → Type 0
Counts before (tell.Handle number) after = (number ≡ before + 1) × (after ≡ before + 1)
Counts before _ after = after ≡ before

IsCounted : State → Outcome → Type 0
IsCounted state outcome = Counts state.handles.count outcome.told outcome.after.handles.count

counted_says : (state : State) (reply : Told) → IsNoHandle reply → IsCounted state (says state
    reply)
unfolding IsCounted Counts IsNoHandle
counted_says state (tell.Handle number) never = absurd never
counted_says state tell.Version none = refl
counted_says state (tell.Report why) none = refl
counted_says state (tell.Data bytes) none = refl
counted_says state (tell.Size size) none = refl
counted_says state (tell.Name path) none = refl

counted_change : (state : State) (files : Tree) → IsCounted state (changes state files)
unfolding IsCounted Counts
counted_change state files = refl

counted_gives : (state : State) (path : List ℕ) (flags : ℕ) (files : Tree)
    → IsCounted state (gives state path flags (Ok files))
unfolding IsCounted Counts
counted_gives state path flags files = (refl, refl)

counted_close : (state : State) (one : Opened) → IsCounted state (close_one state (Some one))
unfolding IsCounted Counts
counted_close state one = refl

counted_begun : (state : State) → IsCounted state (outcome state ask.Init)
unfolding IsCounted Counts
counted_begun state = refl

counted : (state : State) (asked : Result Asked Status) → IsCounted state (outcome_of state asked)
counted state (Err why) = counted_says state (tell.Report why) (no_handle_report why)
counted state (Ok asked) = on_outcome state (IsCounted state) (counted_says state)
    (counted_change state) (counted_gives state) (counted_close state) (counted_begun state) asked

-- one packet more
counted_more : (before after : ℕ) (reply : Told) (more : List Told) → Counts before reply after
    → AreCounted after (given_by more) → AreCounted before (given_by (reply ∷ more))
unfolding Counts
counted_more before after (tell.Handle number) more is rest =
    (is.0, subst (λ n. AreCounted n (given_by more)) is.1 rest)
counted_more before after tell.Version more is rest =
    subst (λ n. AreCounted n (given_by more)) is rest
counted_more before after (tell.Report why) more is rest =
    subst (λ n. AreCounted n (given_by more)) is rest
counted_more before after (tell.Data bytes) more is rest =
    subst (λ n. AreCounted n (given_by more)) is rest
counted_more before after (tell.Size size) more is rest =
    subst (λ n. AreCounted n (given_by more)) is rest
counted_more before after (tell.Name path) more is rest =
    subst (λ n. AreCounted n (given_by more)) is rest

pub gives_each_once : (state : State) (packets : List (List ℕ))
    → AreCounted state.handles.count (given_by (told_to state packets))
unfolding IsCounted
gives_each_once state [] = tt
gives_each_once state (packet ∷ packets) =
    let now = outcome_at state packet in
    counted_more state.handles.count now.after.handles.count now.told (told_to now.after packets)
    (counted state (heard state (slice_index packet 0) (drop 5 packet)))
    (gives_each_once now.after packets)

-- ---- what is written

-- a WRITE of something that was done put it there
written : (a b d : Bool) (state : State) (files : Tree) → b ≡ false
    → (if a then refuses state status.Failure
    else if b then says state (tell.Report status.Ok)
    else if d then refuses state status.Failure
    else changes state files).told ≡ tell.Report status.Ok
    → (if a then refuses state status.Failure
    else if b then says state (tell.Report status.Ok)
    else if d then refuses state status.Failure
    else changes state files) ≡ changes state files
written true b d state files some is = absurd (cc is)
written false true d state files some is = absurd (cc some)
written false false true state files some is = absurd (cc is)
written false false false state files some is = refl

does_with : (state : State) (handle : List ℕ) (one : Opened) (file : List ℕ)
    (does : Opened → List ℕ → Outcome) → file_of state.files state.handles handle ≡ Ok (one, file)
    → by_handle state handle does ≡ does one file
does_with state handle one file does is =
    ap (λ (found : Result (Opened × List ℕ) Status). elim found [
      | Err why ↦ refuses state why
      | Ok x ↦ does x.0 x.1
    ]) is

put_there : (state : State) (handle : List ℕ) (one : Opened) (file : List ℕ) (offset : ℕ)
    (bytes : List ℕ) → file_of state.files state.handles handle ≡ Ok (one, file)
    → 0 < length bytes
    → (outcome state (ask.Write handle offset bytes)).told ≡ tell.Report status.Ok
    → outcome state (ask.Write handle offset bytes) ≡ changes state
    (map.insert state.files one.path (overwritten file (place_of one.flags (length file) offset)
    bytes))
put_there state handle one file offset bytes is some ok =
    let place = place_of one.flags (length file) offset in
    let does : outcome state (ask.Write handle offset bytes) ≡ write_at state place bytes one file =
    does_with state handle one file
    (λ one file. write_at state (place_of one.flags (length file) offset) bytes one file) is in
    let more : (length bytes == 0) ≡ false = grind (arith, some) in
    does ∙ written (not (has one.flags 2)) (length bytes == 0)
    (nat_lt 16777216 (place + length bytes)) state
    (map.insert state.files one.path (overwritten file place bytes)) more
    (ap (λ o. o.told) (sym does) ∙ ok)

-- an open file, by the handle alone
one_under : (file : Option (List ℕ)) (found one : Opened) (bytes : List ℕ)
    → (elim file as (λ _. Result (Opened × List ℕ) Status) [
      | None ↦ Err status.NoSuchFile
      | Some file ↦ Ok (found, file)
    ]) ≡ Ok (one, bytes)
    → found ≡ one
one_under None found one bytes is = absurd (cc is)
one_under (Some file) found one bytes is =
    let pairs : ◌≡◌ {A = Opened × List ℕ} (found, file) (one, bytes) = cc in ap (λ p. p.0) pairs

one_found : (found : Option Opened) (files : Tree) (one : Opened) (file : List ℕ)
    → (elim found as (λ _. Result (Opened × List ℕ) Status) [
      | None ↦ Err status.Failure
      | Some one ↦ file_under files one
    ]) ≡ Ok (one, file)
    → found ≡ Some one
one_found None files one file is = absurd (cc is)
one_found (Some found) files one file is =
    ap Some (one_under (map.get files found.path) found one file is)

-- a file that was put under the path of a handle is that handle's
put_is_found : (state : State) (handle : List ℕ) (one : Opened) (file new : List ℕ)
    → file_of state.files state.handles handle ≡ Ok (one, file)
    → file_of (map.insert state.files one.path new) state.handles handle ≡ Ok (one, new)
put_is_found state handle one file new is =
    let files = map.insert state.files one.path new in
    let found = one_found (opened_by state.handles handle) state.files one file is in
    let got : map.get files one.path ≡ Some new =
    get-insert nat_list_cmp_total state.files one.path new one.path
    ∙ ap (λ b. cond b (Some new) (map.get state.files one.path))
    ((eq_by_cmp_equiv nat_list_cmp_total).refl one.path) in
    ap (λ (o : Option Opened). elim o as (λ _. Result (Opened × List ℕ) Status) [
      | None ↦ Err status.Failure
      | Some one ↦ file_under files one
    ]) found
    ∙ ap (λ (o : Option (List ℕ)). elim o as (λ _. Result (Opened × List ℕ) Status) [
      | None ↦ Err status.NoSuchFile
      | Some file ↦ Ok (one, file)
    ]) got

-- what stands at the offset after a WRITE there
module _ (file : List ℕ) (offset : ℕ) (bytes : List ℕ) where
  front : List ℕ
  front = take offset file ++ replicate (offset - length file) 0

  length-front : length front ≡ offset
  unfolding front
  length-front =
      omega (
        arith,
        length-append (take offset file) (replicate (offset - length file) 0),
        length-take offset file,
        length-replicate {A = ℕ} (offset - length file) 0,
      )

  from_offset : drop offset (overwritten file offset bytes)
      ≡ bytes ++ drop (offset + length bytes) file
  unfolding front
  from_offset =
      ap (λ n. drop n (overwritten file offset bytes)) (sym length-front)
      ∙ ap (drop (length front)) (append_assoc front bytes (drop (offset + length bytes) file))
      ∙ drop-append_seam front (bytes ++ drop (offset + length bytes) file)

  length-overwritten : length (overwritten file offset bytes)
      ≡ offset + length bytes + length (drop (offset + length bytes) file)
  unfolding front
  length-overwritten =
      omega (
        arith,
        length-append (front ++ bytes) (drop (offset + length bytes) file),
        length-append front bytes,
        length-front,
      )

read_done : (a b : Bool) (bytes : List ℕ) → a ≡ false → b ≡ false
    → (if a then tell.Report status.Failure
    else if b then tell.Report status.Eof
    else tell.Data bytes) ≡ tell.Data bytes
read_done true b bytes is not_eof = absurd (cc is)
read_done false true bytes is not_eof = absurd (cc not_eof)
read_done false false bytes is not_eof = refl

read_there : (flags : ℕ) (file : List ℕ) (offset : ℕ) (bytes : List ℕ) → has flags 1 ≡ true
    → 0 < length bytes → length bytes ≤ 65536
    → read_part flags (overwritten file offset bytes) offset (length bytes) ≡ tell.Data bytes
read_there flags file offset bytes reads some few =
    let new = overwritten file offset bytes in
    let inside : nat_le (length new) offset ≡ false =
    grind (arith, length-overwritten file offset bytes, some) in
    let all : min (length bytes) 65536 ≡ length bytes = omega (arith, few) in
    read_done (not (has flags 1)) (nat_le (length new) offset) _ (ap not reads) inside
    ∙ ap tell.Data (ap (λ n. take n (drop offset new)) all
    ∙ ap (take (length bytes)) (from_offset file offset bytes)
    ∙ take-append_seam bytes (drop (offset + length bytes) file))

pub reads_back : (state : State) (handle : List ℕ) (one : Opened) (file : List ℕ) (offset : ℕ)
    (bytes : List ℕ) → file_of state.files state.handles handle ≡ Ok (one, file)
    → has one.flags 1 ≡ true → has one.flags 4 ≡ false → 0 < length bytes → length bytes ≤ 65536
    → (outcome state (ask.Write handle offset bytes)).told ≡ tell.Report status.Ok
    → (outcome (outcome state (ask.Write handle offset bytes)).after
    (ask.Read handle offset (length bytes))).told ≡ tell.Data bytes
reads_back state handle one file offset bytes is reads in_place some few ok =
    let new = overwritten file offset bytes in
    let after : State = record state { files = map.insert state.files one.path new } in
    let place : place_of one.flags (length file) offset ≡ offset =
    ap (λ b. if b then length file else offset) in_place in
    let done : (outcome state (ask.Write handle offset bytes)).after ≡ after =
    ap (λ o. o.after) (put_there state handle one file offset bytes is some ok)
    ∙ ap (λ n. record state { files = map.insert state.files one.path (overwritten file n bytes) })
    place in
    ap (λ s. (outcome s (ask.Read handle offset (length bytes))).told) done
    ∙ ap (λ o. o.told) (does_with after handle one new
    (λ one file. says after (read_part one.flags file offset (length bytes)))
    (put_is_found state handle one file new is))
    ∙ read_there one.flags file offset bytes reads some few

-- at the end of a file
at_the_end : (file bytes : List ℕ) → overwritten file (length file) bytes ≡ file ++ bytes
at_the_end file bytes =
    let none : length file - length file ≡ 0 = omega arith in
    ap (λ z. z ++ replicate (length file - length file) 0 ++ bytes
    ++ drop (length file + length bytes) file) (take_all (length file) file (omega arith))
    ∙ ap (λ n. file ++ replicate n 0 ++ bytes ++ drop (length file + length bytes) file) none
    ∙ ap (λ z. z ++ bytes ++ drop (length file + length bytes) file) (append-nil file)
    ∙ ap (λ z. file ++ bytes ++ z) (drop_all (length file + length bytes) file (omega arith))
    ∙ append-nil (file ++ bytes)

pub adds_to_the_end : (state : State) (handle : List ℕ) (one : Opened) (file : List ℕ) (offset : ℕ)
    (bytes : List ℕ) → file_of state.files state.handles handle ≡ Ok (one, file)
    → has one.flags 4 ≡ true → 0 < length bytes
    → (outcome state (ask.Write handle offset bytes)).told ≡ tell.Report status.Ok
    → map.get (outcome state (ask.Write handle offset bytes)).after.files one.path
    ≡ Some (file ++ bytes)
adds_to_the_end state handle one file offset bytes is appends some ok =
    let place : place_of one.flags (length file) offset ≡ length file =
    ap (λ b. if b then length file else offset) appends in
    ap (λ o. map.get o.after.files one.path)
    (put_there state handle one file offset bytes is some ok)
    ∙ get-insert nat_list_cmp_total state.files one.path _ one.path
    ∙ ap (λ b. cond b (Some (overwritten file (place_of one.flags (length file) offset) bytes))
    (map.get state.files one.path)) ((eq_by_cmp_equiv nat_list_cmp_total).refl one.path)
    ∙ ap (λ n. Some (overwritten file n bytes)) place ∙ ap Some (at_the_end file bytes)
