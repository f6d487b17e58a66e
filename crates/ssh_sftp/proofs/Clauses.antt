-- What a channel that was served says to the clauses of the call.
use Rattle.std.proofs.Common.{◌≡◌, ℕ, List, [], length, map, Result, Ok, Err, true, false}
use Rattle.std.proofs.Common.{refl, sym, ap, subst, ◌∙◌, arith}
use Rattle.std.specs.Prelude.{OnOk, IfErr, IsErrOf, ◌↔◌}
use Rattle.std.proofs.lemmas.List.{drop_all}
use mathlib.Core.List.{IsPrefix}
use Rattle.ssh_wire.specs.declared.channel_id.ChannelId.{ChannelId}
use Rattle.ssh_hub.specs.Step.{opening}
use Rattle.ssh_hub.specs.History.{IsLegal, calls_by}
use Rattle.ssh_hub.specs.declared.history.View.{View}
use Rattle.ssh_hub.proofs.Did.{did_nothing}
use Rattle.ssh_handles.specs.declared.channel.Channel.{Channel}
use Rattle.ssh_handles.specs.Handles.{reader_id, reader_view, writer_id, writer_view}
use Rattle.ssh_handles.specs.Written.{bytes_put}
use Rattle.ssh_sftp.specs.declared.error.SftpError.{SftpError}
use Rattle.ssh_sftp.specs.declared.error.SftpError.TheVariants as error
use Rattle.ssh_sftp.specs.Replies.{Server, stream_of, answers_of, after_all, IsWhole}
use Rattle.ssh_sftp.specs.Serving.{Hears, Says, IsAtEnd, IsServed, EndsBy, IsStoppedBy}
use Rattle.ssh_sftp.specs.Serving.{calls_made, reader_calls, writer_calls, received, put}
use Rattle.ssh_sftp.specs.Serving.{data_received}
use Rattle.ssh_sftp.proofs.Seats.{calls_are}

module _ (before after : Server) (old new : Channel) (result : Result (Unit {0}) SftpError)
    (s : IsServed before old result after new) where
  reader_are : reader_calls old new ≡ s.heard
  reader_are = calls_are (reader_view old.read) s.heard (reader_view new.read) s.hears.does

  writer_are : writer_calls old new ≡ s.said
  writer_are = calls_are (writer_view old.write) s.said (writer_view new.write) s.says.does

  pub has_heard : Hears (reader_id old.read) (reader_view old.read) (reader_calls old new)
      (reader_view new.read)
  has_heard = subst (λ z. Hears (reader_id old.read) (reader_view old.read) z
      (reader_view new.read)) (sym reader_are) s.hears

  pub has_said : Says (writer_id old.write) (writer_view old.write) (writer_calls old new)
      (writer_view new.write)
  has_said = subst (λ z. Says (writer_id old.write) (writer_view old.write) z
      (writer_view new.write)) (sym writer_are) s.says

  pub has_front : IsPrefix (put old new) (answers_of before (received old new))
  has_front = subst (λ z. IsPrefix (bytes_put z) (answers_of before (received old new)))
      (sym writer_are) (subst (λ z. IsPrefix (bytes_put s.said)
      (answers_of before (data_received z))) (sym reader_are) s.front)

  -- how it ended, by what was received and put
  pub has_ended : EndsBy result before after old new (reader_calls old new) (writer_calls old new)
  has_ended = subst (λ z. EndsBy result before after old new (reader_calls old new) z)
      (sym writer_are) (subst (λ z. EndsBy result before after old new z s.said) (sym reader_are)
      s.ends)

pub ok_answered : (before after : Server) (old new : Channel) (result : Result (Unit {0}) SftpError)
    → EndsBy result before after old new (reader_calls old new) (writer_calls old new)
    → OnOk result (put old new ≡ answers_of before (received old new))
ok_answered before after old new (Ok done) e = e.3
ok_answered before after old new (Err why) e = tt

pub ok_whole : (before after : Server) (old new : Channel) (result : Result (Unit {0}) SftpError)
    → EndsBy result before after old new (reader_calls old new) (writer_calls old new)
    → OnOk result (IsWhole (stream_of before (received old new)))
ok_whole before after old new (Ok done) e = e.2
ok_whole before after old new (Err why) e = tt

pub ok_ended : (before after : Server) (old new : Channel) (result : Result (Unit {0}) SftpError)
    → EndsBy result before after old new (reader_calls old new) (writer_calls old new)
    → OnOk result (IsAtEnd (reader_calls old new))
ok_ended before after old new (Ok done) e = e.0
ok_ended before after old new (Err why) e = tt

pub ok_after : (before after : Server) (old new : Channel) (result : Result (Unit {0}) SftpError)
    → EndsBy result before after old new (reader_calls old new) (writer_calls old new)
    → OnOk result (after ≡ after_all before (received old new))
ok_after before after old new (Ok done) e = e.1
ok_after before after old new (Err why) e = tt

pub err_cause : (before after : Server) (old new : Channel) (result : Result (Unit {0}) SftpError)
    → EndsBy result before after old new (reader_calls old new) (writer_calls old new)
    → IfErr result (λ why. IsStoppedBy why before old new)
err_cause before after old new (Ok done) e = tt
err_cause before after old new (Err error.NoMemory) e = tt
err_cause before after old new (Err (error.BadLength n)) e = e
err_cause before after old new (Err error.NoId) e = e
err_cause before after old new (Err (error.Cut left)) e = e
err_cause before after old new (Err (error.Handle h)) e = e
err_cause before after old new (Err error.Failed) e = absurd e

pub err_spent : (before after : Server) (old new : Channel) (result : Result (Unit {0}) SftpError)
    → before.failed ≡ false
    → EndsBy result before after old new (reader_calls old new) (writer_calls old new)
    → IsErrOf result error.Failed ↔ (before.failed ≡ true)
err_spent before after old new (Ok done) fine e =
    (λ is. absurd (cc is), λ bad. absurd (cc (sym fine ∙ bad)))
err_spent before after old new (Err error.NoMemory) fine e =
    (λ is. absurd (cc is), λ bad. absurd (cc (sym fine ∙ bad)))
err_spent before after old new (Err (error.BadLength n)) fine e =
    (λ is. absurd (cc is), λ bad. absurd (cc (sym fine ∙ bad)))
err_spent before after old new (Err error.NoId) fine e =
    (λ is. absurd (cc is), λ bad. absurd (cc (sym fine ∙ bad)))
err_spent before after old new (Err (error.Cut left)) fine e =
    (λ is. absurd (cc is), λ bad. absurd (cc (sym fine ∙ bad)))
err_spent before after old new (Err (error.Handle h)) fine e =
    (λ is. absurd (cc is), λ bad. absurd (cc (sym fine ∙ bad)))
err_spent before after old new (Err error.Failed) fine e = absurd e

-- ---- no call

none_made : (v : View) → calls_made v v ≡ []
none_made v = ap (λ l. map (λ e. (e.call, e.reply)) l)
    (drop_all (length (calls_by v.number v.seen)) (calls_by v.number v.seen) (omega arith))

pub heard_none : (c : ChannelId) (v : View) → IsLegal (opening v.config) v.seen
    → Hears c v (calls_made v v) v
heard_none c v legal = subst (λ z. Hears c v z v) (sym (none_made v))
    (record { does = did_nothing v legal; each = tt })

pub said_none : (c : ChannelId) (v : View) → IsLegal (opening v.config) v.seen
    → Says c v (calls_made v v) v
said_none c v legal = subst (λ z. Says c v z v) (sym (none_made v))
    (record { does = did_nothing v legal; each = tt })

pub front_none : (v : View) (bytes : List ℕ) → IsPrefix (bytes_put (calls_made v v)) bytes
front_none v bytes = subst (λ z. IsPrefix (bytes_put z) bytes) (sym (none_made v)) (bytes, refl)
