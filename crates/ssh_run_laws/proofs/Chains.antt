-- Deeds one after another lead from a world to a world, and what that says of the channel of a
-- number and of the open that waits there.
use Rattle.std.proofs.Common.{◌≡◌, ◌||◌, ◌∙◌, ℕ, List, [], ◌∷◌, ◌++◌, Bool, true, false, refl}
use Rattle.std.proofs.Common.{ap}
use Rattle.std.specs.List.{list_any}
use Rattle.ssh_rules.specs.World.{World}
use Rattle.ssh_run_laws.specs.Deeds.{Deed}
use Rattle.ssh_run_laws.specs.Channels.{Stands, Waits, accepted_from, after_deed, asks, bytes_on, ends}
use Rattle.ssh_run_laws.specs.Channels.{sends, touches, waits_from, waits_then}
use Rattle.ssh_run_laws.proofs.Leading.{Calm, Leads, calm_both, calm_same}

abbrev pub Chain : (n : ℕ) → World → List Deed → World → Type 0
Chain n w [] v = Calm n w v
Chain n w (deed ∷ deeds) v = (mid : World) × (next : World) × Calm n w mid × Leads n deed mid next
    × Chain n next deeds v

module _ (n : ℕ)
  where
    pub chain_behind : (w u : World) (deeds : List Deed) (v : World) → Calm n w u
        → Chain n u deeds v → Chain n w deeds v
    chain_behind w u [] v h c = calm_both n w u v h c
    chain_behind w u (deed ∷ deeds) v h c =
        (c.0, c.1, calm_both n w u c.0 h c.2, c.3, c.4)

    pub chain_both : (w : World) (deeds more : List Deed) (u v : World) → Chain n w deeds u
        → Chain n u more v → Chain n w (deeds ++ more) v
    chain_both w [] more u v c d = chain_behind w u more v c d
    chain_both w (deed ∷ deeds) more u v c d =
        (c.0, c.1, c.2, c.3, chain_both c.1 deeds more u v c.4 d)

    pub chain_before : (w : World) (deeds : List Deed) (u v : World) → Chain n w deeds u
        → Calm n u v → Chain n w deeds v
    chain_before w [] u v c h = calm_both n w u v c h
    chain_before w (deed ∷ deeds) u v c h =
        (c.0, c.1, c.2, c.3, chain_before c.1 deeds u v c.4 h)

    pub chain_more : (deed : Deed) (w v : World) (deeds : List Deed) (u : World)
        → Leads n deed w v → Chain n v deeds u → Chain n w (deed ∷ deeds) u
    chain_more deed w v deeds u h c = (w, v, calm_same n w, h, c)

    -- the bytes that the channel accepted are those of these deeds
    pub chain_bytes : (w : World) (deeds : List Deed) (v : World) → Chain n w deeds v
        → bytes_on n v.channels.lines ≡ accepted_from n (bytes_on n w.channels.lines) deeds
    chain_bytes w [] v c = c.bytes
    chain_bytes w (deed ∷ deeds) v c =
        chain_bytes c.1 deeds v c.4
        ∙ ap (λ held. accepted_from n held deeds)
        (c.3.bytes ∙ ap (λ held. after_deed n held deed) c.2.bytes)

    -- an open waits as these deeds say
    pub chain_waits : (w : World) (deeds : List Deed) (v : World) (waits : Bool) → Chain n w deeds v
        → (waits ≡ true → Waits n w) → waits_from n waits deeds ≡ true → Waits n v
    chain_waits w [] v waits c h t = c.waits (h t)
    chain_waits w (deed ∷ deeds) v waits c h t =
        chain_waits c.1 deeds v (waits_then n waits deed) c.4
        (λ k. c.3.waits waits (λ b. c.2.waits (h b)) k) t

    -- an open that is asked about has another number than one that waits
    pub chain_new : (w : World) (before : List Deed) (deed : Deed) (after : List Deed) (v : World)
        (waits : Bool) → Chain n w (before ++ deed ∷ after) v → (waits ≡ true → Waits n w)
        → asks n deed ≡ true → waits_from n waits before ≡ false
    chain_new w [] deed after v true c h t = absurd (c.3.fresh t (c.2.waits (h refl)))
    chain_new w [] deed after v false c h t = refl
    chain_new w (one ∷ before) deed after v waits c h t =
        chain_new c.1 before deed after v (waits_then n waits one) c.4
        (λ k. c.3.waits waits (λ b. c.2.waits (h b)) k) t

    pub neither : (a b : Bool) → (a || b) ≡ false → (a ≡ false) × (b ≡ false)
    neither true b h = absurd (cc)
    neither false b h = (refl, h)

    -- a channel that none of these deeds ends stands as it stood
    pub chain_stands : (w : World) (deeds : List Deed) (v : World) (ended : Bool)
        → Chain n w deeds v → list_any (ends n) deeds ≡ false → Stands n ended w.channels.lines
        → Stands n ended v.channels.lines
    chain_stands w [] v ended c free s = c.stands ended s
    chain_stands w (deed ∷ deeds) v ended c free s =
        let none = neither (ends n deed) (list_any (ends n) deeds) free in
        chain_stands c.1 deeds v ended c.4 none.1
        (c.3.stands none.0 ended (c.2.stands ended s))

    -- .. and has accepted the same, where none of them touches it
    pub chain_still : (w : World) (deeds : List Deed) (v : World) (ended : Bool)
        → Chain n w deeds v → list_any (touches n) deeds ≡ false
        → Stands n ended w.channels.lines
        → Stands n ended v.channels.lines
        × (bytes_on n v.channels.lines ≡ bytes_on n w.channels.lines)
    chain_still w [] v ended c free s = (c.stands ended s, c.bytes)
    chain_still w (deed ∷ deeds) v ended c free s =
        let none = neither (touches n deed) (list_any (touches n) deeds) free in
        let here = neither (ends n deed) (sends n deed) none.0 in
        let before = c.2.stands ended s in
        let later = chain_still c.1 deeds v ended c.4 none.1 (c.3.stands here.0 ended before) in
        (later.0, later.1 ∙ c.3.still none.0 ended before ∙ c.2.bytes)
