-- What one deed makes of the channel of a number and of the open that waits there, and what leaves
-- both as they are (RFC 4254 section 5).
use Rattle.std.proofs.Common.{◌≡◌, ◌∙◌, ℕ, List, Bool, true, false, refl, sym}
use Rattle.std.proofs.Common.{ap, subst}
use Rattle.ssh_channels.specs.declared.chunk.DataKind.{DataKind}
use Rattle.ssh_channels.specs.Lines.{Lines}
use Rattle.ssh_rules.specs.World.{Channels, World, lined}
use Rattle.ssh_run_laws.specs.Deeds.{Deed}
use Rattle.ssh_run_laws.specs.Channels.{Stands, Waits, after_deed, asks, bytes_on, ends, opens}
use Rattle.ssh_run_laws.specs.Channels.{touches, waits_then}
use Rattle.ssh_run_laws.proofs.Changing.{Keeps}
use Rattle.ssh_run_laws.proofs.Openings.{waiting_at}

-- nothing was done to them
pub record Calm (n : ℕ) (w v : World) : Type 0 where
  pub bytes : bytes_on n v.channels.lines ≡ bytes_on n w.channels.lines
  pub waits : Waits n w → Waits n v
  pub stands : (ended : Bool) → Stands n ended w.channels.lines → Stands n ended v.channels.lines

-- this was done
pub record Leads (n : ℕ) (deed : Deed) (w v : World) : Type 0 where
  pub bytes : bytes_on n v.channels.lines ≡ after_deed n (bytes_on n w.channels.lines) deed
  pub waits : (waits : Bool) → (waits ≡ true → Waits n w) → waits_then n waits deed ≡ true
      → Waits n v
  pub stands : ends n deed ≡ false → (ended : Bool) → Stands n ended w.channels.lines
      → Stands n ended v.channels.lines
  -- where the channel stands, and nothing of this touches it, it has accepted the same
  pub still : touches n deed ≡ false → (ended : Bool) → Stands n ended w.channels.lines
      → bytes_on n v.channels.lines ≡ bytes_on n w.channels.lines
  pub opened : opens n deed ≡ true → Stands n false v.channels.lines
  -- no open waits under the number of one that is asked about
  pub fresh : asks n deed ≡ true → Waits n w → ⊥

pub calm_same : (n : ℕ) (w : World) → Calm n w w
calm_same n w = record { bytes = refl; waits = λ h. h; stands = λ ended s. s }

pub calm_both : (n : ℕ) (w v u : World) → Calm n w v → Calm n v u → Calm n w u
calm_both n w v u h k = record {
  bytes = k.bytes ∙ h.bytes;
  waits = λ q. k.waits (h.waits q);
  stands = λ ended s. k.stands ended (h.stands ended s);
}

-- where the table alone changes
pub calm_lines : (n : ℕ) (w : World) (m : Lines) → Keeps n false w.channels.lines m
    → Calm n w (lined (λ _. m) w)
calm_lines n w m k = record {
  bytes = k.bytes;
  waits = λ q. q;
  stands = λ ended s. k.stands refl ended s;
}

-- where neither the channels nor the opens that wait change
pub calm_beside : (n : ℕ) (w v : World) → v.channels ≡ w.channels → Calm n w v
calm_beside n w v is = record {
  bytes = ap (λ (c : Channels). bytes_on n c.lines) is;
  waits = λ q. (q.0, ap (λ (c : Channels). waiting_at n c.opens) is ∙ q.1);
  stands = λ ended s. subst (λ (c : Channels). Stands n ended c.lines) (sym is) s;
}

-- a deed that changes neither
pub record IsNeutral (n : ℕ) (deed : Deed) : Type 0 where
  pub bytes : (held : List (DataKind × ℕ)) → after_deed n held deed ≡ held
  pub waits : (waits : Bool) → waits_then n waits deed ≡ waits
  pub opens : opens n deed ≡ false
  pub asks : asks n deed ≡ false

pub calm_leads : (n : ℕ) (deed : Deed) (w v : World) → IsNeutral n deed → Calm n w v
    → Leads n deed w v
calm_leads n deed w v neutral calm = record {
  bytes = calm.bytes ∙ sym (neutral.bytes (bytes_on n w.channels.lines));
  waits = λ waits h t. calm.waits (h (sym (neutral.waits waits) ∙ t));
  stands = λ free ended s. calm.stands ended s;
  still = λ free ended s. calm.bytes;
  opened = λ t. absurd (let no : true ≡ false = sym t ∙ neutral.opens in cc);
  fresh = λ t q. let no : true ≡ false = sym t ∙ neutral.asks in cc;
}
