-- What a script's targets tell.
use Rattle.std.proofs.Common.{◌≡◌, List, [], ◌∷◌, ◌++◌, Some, Ok, Bool}
use Rattle.std.proofs.Common.{true, false, refl, sym, ◌∙◌, ap, subst, append_assoc, append-nil}
use Rattle.ssh_link.specs.Told.{Adds}
use Rattle.ssh_gateway.specs.declared.targets.TargetCall.{TargetCall}
use Rattle.ssh_gateway.specs.declared.targets.TargetCall.TheVariants as call
use Rattle.ssh_scene_gateway.specs.declared.targets.ScriptHost.{ScriptHost}
use Rattle.ssh_scene_gateway.specs.Reaching.{Stock, untouched, given_as, after, as_given, left_after}
use Rattle.ssh_scene_gateway.specs.Reaching.{AreReached, heading, told_of}

-- ---- one more call

given_more : (stock : Stock) (calls : List TargetCall) (one : TargetCall)
    → as_given stock (calls ++ one ∷ [])
    ≡ as_given stock calls ++ given_as (left_after stock calls) one ∷ []
given_more stock [] one = refl
given_more stock (first ∷ calls) one =
    ap (λ l. given_as stock first ∷ l) (given_more (after stock first) calls one)

left_more : (stock : Stock) (calls : List TargetCall) (one : TargetCall)
    → left_after stock (calls ++ one ∷ []) ≡ after (left_after stock calls) one
left_more stock [] one = refl
left_more stock (first ∷ calls) one = left_more (after stock first) calls one

-- the calls so far were answered by this stock, and this is left of it
pub record Kept (stock left : Stock) (calls : List TargetCall) : Type 0 where
  pub given : as_given stock calls ≡ calls
  pub left_is : left_after stock calls ≡ left

pub kept_more : (stock left left' : Stock) (calls calls' : List TargetCall) (one : TargetCall)
    → Kept stock left calls → calls' ≡ calls ++ one ∷ [] → given_as left one ≡ one
    → after left one ≡ left' → Kept stock left' calls'
kept_more stock left left' calls calls' one h more given later = record {
  given = ap (as_given stock) more ∙ (given_more stock calls one
      ∙ (ap (λ l. l ++ given_as (left_after stock calls) one ∷ []) h.given
      ∙ (ap (λ s. calls ++ given_as s one ∷ []) h.left_is
      ∙ (ap (λ c. calls ++ c ∷ []) given ∙ sym more))));
  left_is = ap (left_after stock) more ∙ (left_more stock calls one
      ∙ (ap (λ s. after s one) h.left_is ∙ later));
}

-- targets that kept one more call tell it
pub tells_more : (lost : Bool) (hosts : List ScriptHost) (calls calls' : List TargetCall)
    (one : TargetCall) → calls' ≡ calls ++ one ∷ []
    → Adds (told_of lost hosts calls) (told_of lost hosts calls') (one ∷ [])
tells_more true hosts calls calls' one more = refl
tells_more false hosts calls calls' one more =
    ap (λ l. Some (heading hosts ++ l)) more ∙ ap Some (sym (append_assoc (heading hosts) calls
    (one ∷ [])))

-- ---- the hosts are told first

host_once : (a b : ScriptHost) → a.host ≡ b.host → a.port ≡ b.port → a.bytes ≡ b.bytes → a ≡ b
host_once a b h p y = λ i. record { host = h i; port = p i; bytes = y i }

no_head : (rest xs : List TargetCall) (b : ScriptHost)
    → call.Close 0 (Ok tt) ∷ xs ≡ call.Connect 0 b.host b.port (Ok true) ∷ rest → ⊥
no_head rest xs b e = cc

headings : (hosts others : List ScriptHost) (xs ys : List TargetCall)
    → heading hosts ++ xs ≡ heading others ++ ys → (hosts ≡ others) × (xs ≡ ys)
headings [] [] xs ys e = (refl, cc)
headings [] (b ∷ others) xs ys e = absurd (no_head (call.Write 0 b.bytes (Ok tt) ∷ (heading others ++ ys)) xs b e)
headings (a ∷ hosts) [] xs ys e = absurd (no_head (call.Write 0 a.bytes (Ok tt) ∷ (heading hosts ++ xs)) ys a (sym e))
headings (a ∷ hosts) (b ∷ others) xs ys e =
    let host : a.host ≡ b.host = cc in
    let port : a.port ≡ b.port = cc in
    let bytes : a.bytes ≡ b.bytes = cc in
    let more : heading hosts ++ xs ≡ heading others ++ ys = cc in
    let both = headings hosts others xs ys more in
    let first : a ≡ b = host_once a b host port bytes in
    let rest : hosts ≡ others = both.0 in
    (ap (λ one. one ∷ hosts) first ∙ ap (λ l. b ∷ l) rest, both.1)

-- what targets told that were not called before was answered by their hosts
pub reached_is : (lost : Bool) (hosts hosts' : List ScriptHost) (old all made : List TargetCall)
    → lost ≡ false → old ≡ [] → (lost ≡ false → as_given (untouched hosts') all ≡ all)
    → Adds (told_of false hosts old) (told_of lost hosts' all) made
    → AreReached (untouched hosts) made × (all ≡ made)
reached_is true hosts hosts' old all made fine none given h =
    absurd (let z : true ≡ false = fine in cc)
reached_is false hosts hosts' old all made fine none given h =
    let z : Some (heading hosts' ++ all) ≡ Some ((heading hosts ++ old) ++ made) = h in
    let e : heading hosts' ++ all ≡ (heading hosts ++ old) ++ made = cc in
    let f : heading hosts ++ old ≡ heading hosts =
    ap (λ l. heading hosts ++ l) none ∙ append-nil (heading hosts) in
    let both = headings hosts' hosts all made (e ∙ ap (λ l. l ++ made) f) in
    let so : as_given (untouched hosts') made ≡ made =
    ap (as_given (untouched hosts')) (sym both.1) ∙ (given refl ∙ both.1) in
    (subst (λ l. as_given (untouched l) made ≡ made) both.0 so, both.1)
