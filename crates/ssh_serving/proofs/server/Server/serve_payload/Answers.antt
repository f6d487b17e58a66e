use Rattle.std.proofs.Common.{◌∷◌, ◌∙◌, [], Ok, Err, ap, refl, sym, subst, inl, drop}
use Rattle.ssh_auth.specs.Plan.{Finish}
use Rattle.ssh_rules.specs.declared.error.Flow.{Flow}
use Rattle.ssh_rules.specs.declared.error.Flow.TheVariants.{Continue, Ended}
use Rattle.ssh_rules.specs.declared.exchange.Passage.TheVariants as passage
use Rattle.ssh_rules.specs.declared.gate.Gate.TheVariants as gate
use Rattle.ssh_rules.specs.Acts.{Exchanges, Stepping, acts}
use Rattle.ssh_rules.specs.declared.messages.ConnectionMessage.TheVariants.{Data}
use Rattle.ssh_rules.specs.Messages.{message_layout}
use Rattle.ssh_rules.specs.Spelling.{IsRead}
use Rattle.ssh_rules.specs.Outcome.{Goes}
use Rattle.ssh_rules.specs.Reading.{Nothing, Disconnect, Over_cap, Service, Connection, said_of}
use Rattle.ssh_rules.specs.Rows.{exchange_acts, row, spoken_acts}
use Rattle.ssh_rules.specs.Run.{OwesPassed}
use Rattle.ssh_rules.specs.Cause.{comes}
use Rattle.ssh_rules.specs.World.{hears}
use Rattle.ssh_serving.specs.Handing.{IsCutBefore, IsCutInRow}
use Rattle.ssh_serving.proofs.Handing.{before_in_row, completes_to, passed_to, then_kexinit}
use Rattle.ssh_serving.proofs.Handing.{to_other}
use Rattle.ssh_serving.proofs.Reading.{read_row, unserved}
use Rattle.ssh_serving.proofs.Refining.{gate_same, heard_by, passage_same}
use Rattle.ssh_serving.proofs.Stopping.{barred_input, late_input}
use Rattle.ssh_serving.proofs.Serving.{completes, goes_on, passed, quiet, served_both, serves_nothing}
use Rattle.ssh_serving.proofs.server.Server.serve_payload.Goals as goal

pub returns-in_err-begin_exchange-in-Begins-clause-does :
    goal.returns-in_err-begin_exchange-in-Begins-clause-does
returns-in_err-begin_exchange-in-Begins-clause-does g c = λ w r.
    let payload = c.args.payload.now in
    let old = c.args.self.now in
    let v = hears payload w in
    let q = heard_by old c.ticks_behind-self.result c.admit.new.self _ w payload
    c.ticks_behind-self.ensures c.in-Begins.ensures.keys r in
    let plan = acts (exchange_acts payload passage.Begins) v in (
      plan,
      subst (λ at. OwesPassed at (g.V.Verifier.accepts c.args.verifier.now) v c.args.moment payload
          plan) (passage_same _ v payload _ q c.in-Begins.ensures.passage) refl,
      passed_to IsCutInRow plan (λ (_ : Unit {0}). acts (Exchanges (Stepping payload) ∷ []))
          (λ flow world. Finish (comes flow world)) _ _ c.begin_exchange.new.self
          c.begin_exchange.new.self _ _ c.from_residual.ensures.1
          (to_other IsCutBefore IsCutInRow plan
          (λ (_ : Unit {0}). acts (Exchanges (Stepping payload) ∷ [])) _ _
          c.begin_exchange.new.self (Err _)
          (c.in_err-begin_exchange-in-Begins.ensures.does v q (Exchanges (Stepping payload) ∷ []))
          (λ cause events cut. before_in_row cause _ plan events cut)),
    )

pub returns-in_err-step_exchange-in-Begins-clause-does :
    goal.returns-in_err-step_exchange-in-Begins-clause-does
returns-in_err-step_exchange-in-Begins-clause-does g c = λ w r.
    let payload = c.args.payload.now in
    let old = c.args.self.now in
    let v = hears payload w in
    let q = heard_by old c.ticks_behind-self.result c.admit.new.self _ w payload
    c.ticks_behind-self.ensures c.in-Begins.ensures.keys r in
    let step = Exchanges (Stepping payload) ∷ [] in
    let plan = acts (exchange_acts payload passage.Begins) v in (
      plan,
      subst (λ at. OwesPassed at (g.V.Verifier.accepts c.args.verifier.now) v c.args.moment payload
          plan) (passage_same _ v payload _ q c.in-Begins.ensures.passage) refl,
      then_kexinit payload v (λ flow world. Finish (comes flow world)) _ _ _
          c.begin_exchange.new.self c.step_exchange.new.self _
          (c.in_ok-begin_exchange-in-Begins.ensures.does v q step).0
          (λ u s. passed_to IsCutBefore (acts step u)
          (λ (_ : Unit {0}) world. Finish (Goes world)) (λ flow world. Finish (comes flow world))
          _ _ c.step_exchange.new.self c.step_exchange.new.self _ _
          c.from_residual-in_err-step_exchange-in-Begins.ensures.1
          (completes_to IsCutBefore step u _ _ c.step_exchange.new.self (Err _)
          (c.in_err-step_exchange-in-Begins.ensures.does u s))),
    )

pub returns-in_ok-step_exchange-in-Begins-clause-does :
    goal.returns-in_ok-step_exchange-in-Begins-clause-does
returns-in_ok-step_exchange-in-Begins-clause-does g c = λ w r.
    let payload = c.args.payload.now in
    let old = c.args.self.now in
    let v = hears payload w in
    let q = heard_by old c.ticks_behind-self.result c.admit.new.self _ w payload
    c.ticks_behind-self.ensures c.in-Begins.ensures.keys r in
    let step = Exchanges (Stepping payload) ∷ [] in
    let plan = acts (exchange_acts payload passage.Begins) v in (
      plan,
      subst (λ at. OwesPassed at (g.V.Verifier.accepts c.args.verifier.now) v c.args.moment payload
          plan) (passage_same _ v payload _ q c.in-Begins.ensures.passage) refl,
      (
        served_both tt plan (λ (_ : Unit {0}). acts step) (λ flow world. Finish (comes flow world))
            _ _ _ c.begin_exchange.new.self c.step_exchange.new.self (Ok Continue)
            (c.in_ok-begin_exchange-in-Begins.ensures.does v q step).0
            (λ u s. (completes_to IsCutBefore step u _ _ c.step_exchange.new.self (Ok tt)
            (c.in_ok-step_exchange-in-Begins.ensures.does u s)).0),
        tt,
      ),
    )

pub returns-in_err-step_exchange-in-Steps-clause-does :
    goal.returns-in_err-step_exchange-in-Steps-clause-does
returns-in_err-step_exchange-in-Steps-clause-does g c = λ w r.
    let payload = c.args.payload.now in
    let old = c.args.self.now in
    let v = hears payload w in
    let q = heard_by old c.ticks_behind-self.result c.admit.new.self _ w payload
    c.ticks_behind-self.ensures c.in-Steps.ensures.keys r in
    let step = Exchanges (Stepping payload) ∷ [] in
    let plan = acts step v in (
      plan,
      subst (λ at. OwesPassed at (g.V.Verifier.accepts c.args.verifier.now) v c.args.moment payload
          plan) (passage_same _ v payload _ q c.in-Steps.ensures.passage) refl,
      passed_to IsCutInRow plan (λ (_ : Unit {0}) world. Finish (Goes world))
          (λ flow world. Finish (comes flow world)) _ _ c.step_exchange-in-Steps.new.self
          c.step_exchange-in-Steps.new.self _ _
          c.from_residual-in_err-step_exchange-in-Steps.ensures.1
          (to_other IsCutBefore IsCutInRow plan (λ (_ : Unit {0}) world. Finish (Goes world)) _ _
          c.step_exchange-in-Steps.new.self (Err _)
          (completes_to IsCutBefore step v _ _ c.step_exchange-in-Steps.new.self (Err _)
          (c.in_err-step_exchange-in-Steps.ensures.does v q))
          (λ cause events cut. before_in_row cause _ plan events cut)),
    )

pub returns-in_ok-step_exchange-in-Steps-clause-does :
    goal.returns-in_ok-step_exchange-in-Steps-clause-does
returns-in_ok-step_exchange-in-Steps-clause-does g c = λ w r.
    let payload = c.args.payload.now in
    let old = c.args.self.now in
    let v = hears payload w in
    let q = heard_by old c.ticks_behind-self.result c.admit.new.self _ w payload
    c.ticks_behind-self.ensures c.in-Steps.ensures.keys r in
    let step = Exchanges (Stepping payload) ∷ [] in
    let plan = acts step v in (
      plan,
      subst (λ at. OwesPassed at (g.V.Verifier.accepts c.args.verifier.now) v c.args.moment payload
          plan) (passage_same _ v payload _ q c.in-Steps.ensures.passage) refl,
      (
        (completes_to IsCutBefore step v _ _ c.step_exchange-in-Steps.new.self (Ok tt)
            (c.in_ok-step_exchange-in-Steps.ensures.does v q)).0,
        tt,
      ),
    )

pub returns-in-Barred-clause-does : goal.returns-in-Barred-clause-does
unfolding barred_input
returns-in-Barred-clause-does g c = λ w r.
    let payload = c.args.payload.now in
    let old = c.args.self.now in
    let v = hears payload w in
    let q = heard_by old c.ticks_behind-self.result c.admit.new.self old.session_id_fits w
    payload
    c.ticks_behind-self.ensures c.in-Barred.ensures.keys r in
    let plan = acts (exchange_acts payload passage.Barred) v in (
      plan,
      subst (λ at. OwesPassed at (g.V.Verifier.accepts c.args.verifier.now) v c.args.moment payload
          plan) (passage_same _ v payload _ q c.in-Barred.ensures.passage) refl,
      (barred_input (λ (flow : Flow) world. Finish (comes flow world)) _ c.args.self.now, inl refl),
    )

pub returns-in-Late-clause-does : goal.returns-in-Late-clause-does
unfolding late_input
returns-in-Late-clause-does g c = λ w r.
    let payload = c.args.payload.now in
    let old = c.args.self.now in
    let v = hears payload w in
    let q = heard_by old c.ticks_behind-self.result c.admit.new.self old.session_id_fits w
    payload
    c.ticks_behind-self.ensures c.in-Late.ensures.keys r in
    let plan = acts (exchange_acts payload passage.Late) v in (
      plan,
      subst (λ at. OwesPassed at (g.V.Verifier.accepts c.args.verifier.now) v c.args.moment payload
          plan) (passage_same _ v payload _ q c.in-Late.ensures.passage) refl,
      (late_input (λ (flow : Flow) world. Finish (comes flow world)) _ c.args.self.now, inl refl),
    )

pub returns-in-Nothing-clause-does : goal.returns-in-Nothing-clause-does
returns-in-Nothing-clause-does g c = λ w r.
    let payload = c.args.payload.now in
    let old = c.args.self.now in
    let v = hears payload w in
    let q = heard_by old c.ticks_behind-self.result c.admit.new.self _ w payload
    c.ticks_behind-self.ensures c.in-Passes.ensures.keys r in
    read_row (g.V.Verifier.accepts c.args.verifier.now) v c.args.moment payload gate.Nothing
    Nothing _ _ _ (Ok Continue) (passage_same _ v payload _ q c.in-Passes.ensures.passage)
    (gate_same _ v payload _ q c.in-Nothing.ensures.gate) refl
    (serves_nothing Continue (λ flow world. Finish (comes flow world)) _ v _ q)

pub returns-in-Ends-clause-does : goal.returns-in-Ends-clause-does
returns-in-Ends-clause-does g c = λ w r.
    let payload = c.args.payload.now in
    let old = c.args.self.now in
    let v = hears payload w in
    let q = heard_by old c.ticks_behind-self.result c.admit.new.self _ w payload
    c.ticks_behind-self.ensures c.in-Passes.ensures.keys r in
    read_row (g.V.Verifier.accepts c.args.verifier.now) v c.args.moment payload gate.Ends
    Disconnect _ _ _ (Ok Ended) (passage_same _ v payload _ q c.in-Passes.ensures.passage)
    (gate_same _ v payload _ q c.in-Ends.ensures.gate) refl
    (serves_nothing Ended (λ flow world. Finish (comes flow world)) _ v _ q)

pub returns-in-OverCap-clause-does : goal.returns-in-OverCap-clause-does
returns-in-OverCap-clause-does g c = λ w r.
    let payload = c.args.payload.now in
    let old = c.args.self.now in
    let v = hears payload w in
    let q = heard_by old c.ticks_behind-self.result c.admit.new.self _ w payload
    c.ticks_behind-self.ensures c.in-Passes.ensures.keys r in
    read_row (g.V.Verifier.accepts c.args.verifier.now) v c.args.moment payload gate.OverCap
    Over_cap _ _ c.serve_over_cap.new.self c.serve_over_cap.result
    (passage_same _ v payload _ q c.in-Passes.ensures.passage)
    (gate_same _ v payload _ q c.in-OverCap.ensures.gate) refl
    (quiet (row v c.args.moment Over_cap) (λ flow world. Finish (comes flow world)) _
    c.serve_over_cap.new.self c.serve_over_cap.result (c.serve_over_cap.ensures.does v c.args.moment q))

pub returns-in-ServiceRequest-clause-does : goal.returns-in-ServiceRequest-clause-does
returns-in-ServiceRequest-clause-does g c = λ w r.
    let payload = c.args.payload.now in
    let old = c.args.self.now in
    let v = hears payload w in
    let q = heard_by old c.ticks_behind-self.result c.admit.new.self _ w payload
    c.ticks_behind-self.ensures c.in-Passes.ensures.keys r in
    let served = rw c.fields_of.ensures at (c.serve_service_request.ensures.does v
    c.args.moment q) in
    read_row (g.V.Verifier.accepts c.args.verifier.now) v c.args.moment payload gate.ServiceRequest
    (said_of Service served.0) _ _ c.serve_service_request.new.self c.serve_service_request.result
    (passage_same _ v payload _ q c.in-Passes.ensures.passage)
    (gate_same _ v payload _ q c.in-ServiceRequest.ensures.gate) (served.0, served.1, refl) served.2

pub returns-in-UserauthRequest-clause-does : goal.returns-in-UserauthRequest-clause-does
returns-in-UserauthRequest-clause-does g c = λ w r.
    let payload = c.args.payload.now in
    let old = c.args.self.now in
    let v = hears payload w in
    let q = heard_by old c.ticks_behind-self.result c.admit.new.self _ w payload
    c.ticks_behind-self.ensures c.in-Passes.ensures.keys r in
    let served = c.serve_userauth_request.ensures.does v q in
    read_row (g.V.Verifier.accepts c.args.verifier.now) v c.args.moment payload gate.UserauthRequest
    served.0 _ _ c.serve_userauth_request.new.self c.serve_userauth_request.result
    (passage_same _ v payload _ q c.in-Passes.ensures.passage)
    (gate_same _ v payload _ q c.in-UserauthRequest.ensures.gate) served.1 served.2

pub returns-in-InfoResponse-clause-does : goal.returns-in-InfoResponse-clause-does
returns-in-InfoResponse-clause-does g c = λ w r.
    let payload = c.args.payload.now in
    let old = c.args.self.now in
    let v = hears payload w in
    let q = heard_by old c.ticks_behind-self.result c.admit.new.self _ w payload
    c.ticks_behind-self.ensures c.in-Passes.ensures.keys r in
    let served = c.serve_info_response.ensures.does v q in
    read_row (g.V.Verifier.accepts c.args.verifier.now) v c.args.moment payload gate.InfoResponse
    served.0 _ _ c.serve_info_response.new.self c.serve_info_response.result
    (passage_same _ v payload _ q c.in-Passes.ensures.passage)
    (gate_same _ v payload _ q c.in-InfoResponse.ensures.gate) served.1 served.2

pub returns-in-ChannelOpen-clause-does : goal.returns-in-ChannelOpen-clause-does
returns-in-ChannelOpen-clause-does g c = λ w r.
    let payload = c.args.payload.now in
    let old = c.args.self.now in
    let v = hears payload w in
    let q = heard_by old c.ticks_behind-self.result c.admit.new.self _ w payload
    c.ticks_behind-self.ensures c.in-Passes.ensures.keys r in
    let served = rw c.fields_of-in-ChannelOpen.ensures at (c.serve_channel_open.ensures.does v
    c.args.moment q) in
    read_row (g.V.Verifier.accepts c.args.verifier.now) v c.args.moment payload gate.ChannelOpen
    served.0 _ _ c.serve_channel_open.new.self c.serve_channel_open.result
    (passage_same _ v payload _ q c.in-Passes.ensures.passage)
    (gate_same _ v payload _ q c.in-ChannelOpen.ensures.gate) served.1 served.2

pub returns-in-OpenConfirmation-clause-does : goal.returns-in-OpenConfirmation-clause-does
returns-in-OpenConfirmation-clause-does g c = λ w r.
    let payload = c.args.payload.now in
    let old = c.args.self.now in
    let v = hears payload w in
    let q = heard_by old c.ticks_behind-self.result c.admit.new.self _ w payload
    c.ticks_behind-self.ensures c.in-Passes.ensures.keys r in
    let served = rw c.fields_of-in-OpenConfirmation.ensures at
    (c.serve_open_confirmation.ensures.does v c.args.moment q) in
    read_row (g.V.Verifier.accepts c.args.verifier.now) v c.args.moment payload
    gate.OpenConfirmation served.0 _ _ c.serve_open_confirmation.new.self
    c.serve_open_confirmation.result
    (passage_same _ v payload _ q c.in-Passes.ensures.passage)
    (gate_same _ v payload _ q c.in-OpenConfirmation.ensures.gate) served.1 served.2

pub returns-in_err-spoken-in-Connection-Data-clause-does :
    goal.returns-in_err-spoken-in-Connection-Data-clause-does
returns-in_err-spoken-in-Connection-Data-clause-does g c = λ w r.
    let payload = c.args.payload.now in
    let old = c.args.self.now in
    let v = hears payload w in
    let q = heard_by old c.ticks_behind-self.result c.admit.new.self _ w payload
    c.ticks_behind-self.ensures c.in-Passes.ensures.keys r in
    let served = unserved v c.args.moment (message_layout v Data)
    (drop 1 payload) c.in_err-spoken-in-Connection-Data.field-0.0
    (g.O.Transport.heard c.args.outside.now) _ _
    c.from_residual-in_err-spoken-in-Connection-Data.result
    c.from_residual-in_err-spoken-in-Connection-Data.ensures.1 refl
    (subst (λ l. IsRead (message_layout v Data) l
    (Err c.in_err-spoken-in-Connection-Data.field-0.0)) c.fields_of-in-Connection-Data.ensures
    (c.in_err-spoken-in-Connection-Data.ensures v q)) in
    read_row (g.V.Verifier.accepts c.args.verifier.now) v c.args.moment payload
    (gate.Connection Data) (said_of Connection served.0) _ _ _ _
    (passage_same _ v payload _ q c.in-Passes.ensures.passage)
    (sym (ap gate.Connection c.in-Connection-Data.field-0-is)
    ∙ gate_same _ v payload _ q c.in-Connection-Data.ensures.gate) (served.0, served.1, refl) served.2

pub returns-in_err-serve_spoken-in-Connection-Data-clause-does :
    goal.returns-in_err-serve_spoken-in-Connection-Data-clause-does
returns-in_err-serve_spoken-in-Connection-Data-clause-does g c = λ w r.
    let payload = c.args.payload.now in
    let old = c.args.self.now in
    let v = hears payload w in
    let q = heard_by old c.ticks_behind-self.result c.admit.new.self _ w payload
    c.ticks_behind-self.ensures c.in-Passes.ensures.keys r in
    let said = c.in_ok-spoken-in-Connection-Data.spoken in
    read_row (g.V.Verifier.accepts c.args.verifier.now) v c.args.moment payload
    (gate.Connection Data) (Connection said) _ _ c.serve_spoken.new.self _
    (passage_same _ v payload _ q c.in-Passes.ensures.passage)
    (sym (ap gate.Connection c.in-Connection-Data.field-0-is)
    ∙ gate_same _ v payload _ q c.in-Connection-Data.ensures.gate)
    (Ok said, rw c.fields_of-in-Connection-Data.ensures at (c.in_ok-spoken-in-Connection-Data.ensures v q), refl)
    (passed (row v c.args.moment (Connection said)) (λ (_ : Unit {0}) world. Finish (Goes world))
    (λ (flow : Flow) world. Finish (comes flow world)) _ _
    c.serve_spoken.new.self c.serve_spoken.new.self _ _
    c.from_residual-in_err-serve_spoken-in-Connection-Data.ensures.1
    (completes (spoken_acts v said) v _ _ c.serve_spoken.new.self
    (Err c.in_err-serve_spoken-in-Connection-Data.field-0.0)
    (c.in_err-serve_spoken-in-Connection-Data.ensures.does v q)))

pub returns-in_ok-serve_spoken-in-Connection-Data-clause-does :
    goal.returns-in_ok-serve_spoken-in-Connection-Data-clause-does
returns-in_ok-serve_spoken-in-Connection-Data-clause-does g c = λ w r.
    let payload = c.args.payload.now in
    let old = c.args.self.now in
    let v = hears payload w in
    let q = heard_by old c.ticks_behind-self.result c.admit.new.self _ w payload
    c.ticks_behind-self.ensures c.in-Passes.ensures.keys r in
    let said = c.in_ok-spoken-in-Connection-Data.spoken in
    read_row (g.V.Verifier.accepts c.args.verifier.now) v c.args.moment payload
    (gate.Connection Data) (Connection said) _ _ c.serve_spoken.new.self (Ok Continue)
    (passage_same _ v payload _ q c.in-Passes.ensures.passage)
    (sym (ap gate.Connection c.in-Connection-Data.field-0-is)
    ∙ gate_same _ v payload _ q c.in-Connection-Data.ensures.gate)
    (Ok said, rw c.fields_of-in-Connection-Data.ensures at (c.in_ok-spoken-in-Connection-Data.ensures v q), refl)
    (goes_on (spoken_acts v said) v _ _ c.serve_spoken.new.self
    (c.in_ok-serve_spoken-in-Connection-Data.ensures.does v q))

pub returns-in_err-spoken-in-Connection-clause-does :
    goal.returns-in_err-spoken-in-Connection-clause-does
returns-in_err-spoken-in-Connection-clause-does g c = λ w r.
    let payload = c.args.payload.now in
    let old = c.args.self.now in
    let v = hears payload w in
    let q = heard_by old c.ticks_behind-self.result c.admit.new.self _ w payload
    c.ticks_behind-self.ensures c.in-Passes.ensures.keys r in
    let served = unserved v c.args.moment (message_layout v c.in-Connection.message)
    (drop 1 payload) c.in_err-spoken-in-Connection.field-0.0
    (g.O.Transport.heard c.args.outside.now) _ _
    c.from_residual-in_err-spoken-in-Connection.result
    c.from_residual-in_err-spoken-in-Connection.ensures.1 refl
    (subst (λ l. IsRead (message_layout v c.in-Connection.message) l
    (Err c.in_err-spoken-in-Connection.field-0.0)) c.fields_of-in-Connection.ensures
    (c.in_err-spoken-in-Connection.ensures v q)) in
    read_row (g.V.Verifier.accepts c.args.verifier.now) v c.args.moment payload
    (gate.Connection c.in-Connection.message) (said_of Connection served.0) _ _ _ _
    (passage_same _ v payload _ q c.in-Passes.ensures.passage)
    (gate_same _ v payload _ q c.in-Connection.ensures.gate) (served.0, served.1, refl) served.2

pub returns-in_err-serve_spoken-in-Connection-clause-does :
    goal.returns-in_err-serve_spoken-in-Connection-clause-does
returns-in_err-serve_spoken-in-Connection-clause-does g c = λ w r.
    let payload = c.args.payload.now in
    let old = c.args.self.now in
    let v = hears payload w in
    let q = heard_by old c.ticks_behind-self.result c.admit.new.self _ w payload
    c.ticks_behind-self.ensures c.in-Passes.ensures.keys r in
    let said = c.in_ok-spoken-in-Connection.spoken in
    read_row (g.V.Verifier.accepts c.args.verifier.now) v c.args.moment payload
    (gate.Connection c.in-Connection.message) (Connection said) _ _ c.serve_spoken-in-Connection.new.self _
    (passage_same _ v payload _ q c.in-Passes.ensures.passage)
    (gate_same _ v payload _ q c.in-Connection.ensures.gate)
    (Ok said, rw c.fields_of-in-Connection.ensures at (c.in_ok-spoken-in-Connection.ensures v q), refl)
    (passed (row v c.args.moment (Connection said)) (λ (_ : Unit {0}) world. Finish (Goes world))
    (λ (flow : Flow) world. Finish (comes flow world)) _ _
    c.serve_spoken-in-Connection.new.self c.serve_spoken-in-Connection.new.self _ _
    c.from_residual-in_err-serve_spoken-in-Connection.ensures.1
    (completes (spoken_acts v said) v _ _ c.serve_spoken-in-Connection.new.self
    (Err c.in_err-serve_spoken-in-Connection.field-0.0)
    (c.in_err-serve_spoken-in-Connection.ensures.does v q)))

pub returns-in_ok-serve_spoken-in-Connection-clause-does :
    goal.returns-in_ok-serve_spoken-in-Connection-clause-does
returns-in_ok-serve_spoken-in-Connection-clause-does g c = λ w r.
    let payload = c.args.payload.now in
    let old = c.args.self.now in
    let v = hears payload w in
    let q = heard_by old c.ticks_behind-self.result c.admit.new.self _ w payload
    c.ticks_behind-self.ensures c.in-Passes.ensures.keys r in
    let said = c.in_ok-spoken-in-Connection.spoken in
    read_row (g.V.Verifier.accepts c.args.verifier.now) v c.args.moment payload
    (gate.Connection c.in-Connection.message) (Connection said) _ _ c.serve_spoken-in-Connection.new.self (Ok Continue)
    (passage_same _ v payload _ q c.in-Passes.ensures.passage)
    (gate_same _ v payload _ q c.in-Connection.ensures.gate)
    (Ok said, rw c.fields_of-in-Connection.ensures at (c.in_ok-spoken-in-Connection.ensures v q), refl)
    (goes_on (spoken_acts v said) v _ _ c.serve_spoken-in-Connection.new.self
    (c.in_ok-serve_spoken-in-Connection.ensures.does v q))
