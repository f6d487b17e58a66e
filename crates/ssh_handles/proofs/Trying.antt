-- Calls that are made again.
use Rattle.std.proofs.Common.{◌≡◌, Option, Some, None, Result, Ok, Err, ℕ, refl, ap, sym, ◌∙◌}
use Rattle.ssh_hub.specs.Step.{opening}
use Rattle.ssh_hub.specs.History.{IsLegal}
use Rattle.ssh_hub.specs.declared.answers.HandleError.{HandleError}
use Rattle.ssh_hub.specs.declared.history.HubCall.{HubCall}
use Rattle.ssh_hub.specs.declared.history.HubCall.TheVariants.{AskEnded}
use Rattle.ssh_hub.specs.declared.history.HubReply.{HubReply}
use Rattle.ssh_hub.specs.declared.history.HubReply.TheVariants.{EndedAt}
use Rattle.ssh_hub.specs.declared.history.View.{View}
use Rattle.ssh_hub.specs.Words.{Makes}
use Rattle.ssh_hub.specs.Follow.{Acts}
use Rattle.ssh_hub.proofs.Following.{acts_none, acts_to}
use Rattle.ssh_handles.specs.Tries.{Tried, trying, got, tries, after_try}
use Rattle.ssh_handles.specs.Awaits.{
  Awaited,
  asking,
  missing,
  settled,
  awaits,
  after_asking,
  after_missing,
}

module _ {A : Type 0} (c : HubCall) (said : HubReply → Option A) where
  -- the call was made once more, and its answer said nothing
  pub tried_in_vain : (v w : View) (d : HubCall) (r : HubReply) (x : View)
      → Acts (tries c said) v trying trying w → c ≡ d → Makes w d r x → said r ≡ None
      → Acts (tries c said) v trying trying x
  tried_in_vain v w d r x a same made none = acts_to (tries c said) v trying w trying d r x trying a
      (ap (λ (k : HubCall). Some k) same) made (ap after_try none)

  -- and its answer said a
  pub tried_well : (v w : View) (d : HubCall) (r : HubReply) (x : View) (a : A)
      → Acts (tries c said) v trying trying w → c ≡ d → Makes w d r x → said r ≡ Some a
      → Acts (tries c said) v trying (got a) x
  tried_well v w d r x a so_far same made is = acts_to (tries c said) v trying w trying d r x (got a)
      so_far (ap (λ (k : HubCall). Some k) same) made (ap after_try is)

  -- it was asked for, and was not there, nor had the hub ended
  pub awaited_in_vain : (v w : View) (r : HubReply) (x : View) (o : Option ℕ) (y : View)
      → Acts (awaits c said) v asking asking w → Makes w c r x → said r ≡ None
      → Makes x AskEnded (EndedAt o) y → o ≡ None → Acts (awaits c said) v asking asking y
  awaited_in_vain v w r x o y a made none again still = acts_to (awaits c said) v asking x missing
      AskEnded (EndedAt o) y asking
      (acts_to (awaits c said) v asking w asking c r x missing a refl made (ap after_asking none))
      refl again (ap after_missing still)

  -- nor was it there, and the hub had ended
  pub awaited_end : (v w : View) (r : HubReply) (x : View) (o : Option ℕ) (y : View) (at : ℕ)
      → Acts (awaits c said) v asking asking w → Makes w c r x → said r ≡ None
      → Makes x AskEnded (EndedAt o) y → o ≡ Some at
      → Acts (awaits c said) v asking (after_missing (Some at)) y
  awaited_end v w r x o y at a made none again ended = acts_to (awaits c said) v asking x missing
      AskEnded (EndedAt o) y (after_missing (Some at))
      (acts_to (awaits c said) v asking w asking c r x missing a refl made (ap after_asking none))
      refl again (ap after_missing ended)

  -- it was there
  pub awaited_well : (v w : View) (r : HubReply) (x : View) (a : A)
      → Acts (awaits c said) v asking asking w → Makes w c r x → said r ≡ Some a
      → Acts (awaits c said) v asking (settled (Ok a)) x
  awaited_well v w r x a so_far made is = acts_to (awaits c said) v asking w asking c r x
      (settled (Ok a)) so_far refl made (ap after_asking is)
