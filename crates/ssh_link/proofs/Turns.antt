-- Which input of a supply comes next, and what is left behind it.
use Rattle.std.proofs.Common.{◌≡◌, ℕ, ◌⊎◌, inl, inr, Bool, true, false, List, [], ◌∷◌, ◌++◌, drop}
use Rattle.std.proofs.Common.{Some, None, refl, sym, ap, ◌∙◌, append_assoc, append-nil, arith}
use Rattle.std.specs.List.{list_all, list_any, filter, find, position_or_len, before_first}
use Rattle.std.specs.List.{slice_get}
use Rattle.std.proofs.lemmas.Grind.{common_steps}
use Rattle.std.proofs.lemmas.List.{drop-drop}
use Rattle.ssh_link.specs.declared.frame.Input.{Input}
use Rattle.ssh_link.specs.declared.frame.InputKind.{InputKind}
use Rattle.ssh_link.specs.declared.frame.InputKind.TheVariants.{Payload, Command, OpenReply}
use Rattle.ssh_link.specs.declared.frame.InputKind.TheVariants.{KeepaliveTick, InactivityTick}
use Rattle.ssh_link.specs.declared.frame.InputKind.TheVariants.{RekeyTick, End}
use Rattle.ssh_link.specs.Asked.{is_asked, IsAsked}
use Rattle.ssh_link.specs.Supply.{Supply, is_command, is_reply, input_or_end, in_turn, next_input}
use Rattle.ssh_link.specs.Supply.{passed_over, after_next}
use Rattle.ssh_link.specs.Waiting.{first_passes, first_aside}

-- a queue of inputs as a supply
abbrev pub seen : List Input → List Input → List Input → ℕ → Supply
seen aside more left moment =
    record { replies = aside; commands = more; left = left; end_moment = moment }

abbrev pub asked : Bool → Bool → Input → Bool
asked commands replies input = is_asked commands replies input.kind

-- a reply comes where replies are asked for, and a command where commands are
reply_asked : (commands replies : Bool) (kind : InputKind) → is_reply kind ≡ true
    → is_asked commands replies kind ≡ replies
reply_asked commands replies (OpenReply ticket answer) h = refl
reply_asked commands replies (Command ticket command) h = cc
reply_asked commands replies (Payload bytes) h = cc
reply_asked commands replies KeepaliveTick h = cc
reply_asked commands replies InactivityTick h = cc
reply_asked commands replies RekeyTick h = cc
reply_asked commands replies End h = cc

command_asked : (commands replies : Bool) (kind : InputKind) → is_command kind ≡ true
    → is_asked commands replies kind ≡ commands
command_asked commands replies (OpenReply ticket answer) h = cc
command_asked commands replies (Command ticket command) h = refl
command_asked commands replies (Payload bytes) h = cc
command_asked commands replies KeepaliveTick h = cc
command_asked commands replies InactivityTick h = cc
command_asked commands replies RekeyTick h = cc
command_asked commands replies End h = cc

-- of a list whose inputs all are of one kind, which is not asked for, none is
pub none_asked : (is_kind : Input → Bool) (asks : Input → Bool) (flag : Bool)
    → ((input : Input) → is_kind input ≡ true → asks input ≡ flag) → (inputs : List Input)
    → list_all is_kind inputs ≡ true → (flag ≡ false) ⊎ (inputs ≡ []) → list_any asks inputs ≡ false
none_asked is_kind asks flag same [] h n = refl
none_asked is_kind asks flag same (input ∷ inputs) h (inr e) = cc
none_asked is_kind asks flag same (input ∷ inputs) h (inl e) =
    let here : is_kind input ≡ true = grind (arith, common_steps, h) in
    let there : list_all is_kind inputs ≡ true = grind (arith, common_steps, h) in
    let not_this : asks input ≡ false = same input here ∙ e in
    rw not_this (none_asked is_kind asks flag same inputs there (inl e))

-- those that do not pass are passed over
found_past : {A : Type 0} (p : A → Bool) (front back : List A) → list_any p front ≡ false
    → find p (front ++ back) ≡ find p back
found_past p [] back h = refl
found_past p (x ∷ front) back h = by (p x) refl (λ rest. found_past p front back rest)
  where
    by : (b : Bool) → p x ≡ b → (list_any p front ≡ false → find p (front ++ back) ≡ find p back)
        → find p ((x ∷ front) ++ back) ≡ find p back
    by true e rest = grind (arith, common_steps, e, h)
    by false e rest = rw e (rest (grind (arith, common_steps, e, h)))

before_failing : {A : Type 0} (p : A → Bool) (x : A) (xs : List A) → p x ≡ false
    → before_first p (x ∷ xs) ≡ x ∷ before_first p xs
before_failing p x xs e = grind (arith, common_steps, e)

from_failing : {A : Type 0} (p : A → Bool) (x : A) (xs : List A) → p x ≡ false
    → drop (position_or_len p (x ∷ xs)) (x ∷ xs) ≡ drop (position_or_len p xs) xs
from_failing p x xs e = grind (arith, common_steps, e)

-- the first that passes is the first of what is not passed over
found_first : {A : Type 0} (p : A → Bool) (xs : List A)
    → find p xs ≡ slice_get (drop (position_or_len p xs) xs) 0
found_first p [] = refl
found_first p (x ∷ xs) = by (p x) refl (found_first p xs)
  where
    by : (b : Bool) → p x ≡ b → find p xs ≡ slice_get (drop (position_or_len p xs) xs) 0
        → find p (x ∷ xs) ≡ slice_get (drop (position_or_len p (x ∷ xs)) (x ∷ xs)) 0
    by true e rest = grind (arith, common_steps, e)
    by false e rest =
        let skipped : find p (x ∷ xs) ≡ find p xs = rw e refl in
        skipped ∙ rest ∙ ap (λ l. slice_get l 0) (sym (from_failing p x xs e))

filter_one : {A : Type 0} (f : A → Bool) (x : A) (xs : List A)
    → filter f (x ∷ []) ++ filter f xs ≡ filter f (x ∷ xs)
filter_one f x xs = by (f x) refl
  where
    by : (b : Bool) → f x ≡ b → filter f (x ∷ []) ++ filter f xs ≡ filter f (x ∷ xs)
    by true e = rw e refl
    by false e = rw e refl

filter_more : {A : Type 0} (f p : A → Bool) (aside : List A) (x : A) (xs : List A) → p x ≡ false
    → (aside ++ filter f (x ∷ [])) ++ filter f (before_first p xs) ≡ aside
    ++ filter f (before_first p (x ∷ xs))
filter_more f p aside x xs e = append_assoc aside (filter f (x ∷ [])) (filter f (before_first p xs))
    ∙ ap (λ l. aside ++ l) (filter_one f x (before_first p xs)
    ∙ ap (filter f) (sym (before_failing p x xs e)))

-- setting the first aside passes over the same
more_passed : (p : Input → Bool) (aside more : List Input) (moment : ℕ) (input : Input)
    (left : List Input) → p input ≡ false → passed_over p
    (first_aside (seen aside more (input ∷ left) moment))
    ≡ passed_over p (seen aside more (input ∷ left) moment)
more_passed p aside more moment input left e =
    let a = filter_more (λ one. is_reply one.kind) p aside input left e in
    let b = filter_more (λ one. is_command one.kind) p more input left e in
    let c = from_failing p input left e in
    cc

-- where the first passes, none is passed over
none_passed : (p : Input → Bool) (aside more : List Input) (moment : ℕ) (input : Input)
    (left : List Input) → p input ≡ true → passed_over p (seen aside more (input ∷ left) moment)
    ≡ seen aside more (input ∷ left) moment
none_passed p aside more moment input left e =
    rw e (grind (arith, common_steps, append-nil aside, append-nil more))

all_passed : (p : Input → Bool) (aside more : List Input) (moment : ℕ)
    → passed_over p (seen aside more [] moment) ≡ seen aside more [] moment
all_passed p aside more moment = grind (arith, common_steps, append-nil aside, append-nil more)

module _ (commands replies : Bool) where
  pub no_reply : (inputs : List Input) → list_all (λ input. is_reply input.kind) inputs ≡ true
      → (replies ≡ false) ⊎ (inputs ≡ []) → list_any (asked commands replies) inputs ≡ false
  no_reply = none_asked (λ input. is_reply input.kind) (asked commands replies) replies
      (λ input. reply_asked commands replies input.kind)

  pub no_command : (inputs : List Input) → list_all (λ input. is_command input.kind) inputs ≡ true
      → (commands ≡ false) ⊎ (inputs ≡ []) → list_any (asked commands replies) inputs ≡ false
  no_command = none_asked (λ input. is_command input.kind) (asked commands replies) commands
      (λ input. command_asked commands replies input.kind)

  -- the first reply that was set aside, where replies are asked for
  pub reply_next : (aside more left : List Input) (moment : ℕ) (reply : Input)
      → list_all (λ input. is_reply input.kind) aside ≡ true → replies ≡ true
      → slice_get aside 0 ≡ Some reply → reply ≡ next_input commands replies
      (seen aside more left moment)
  reply_next [] more left moment reply all asks h = cc
  reply_next (input ∷ aside) more left moment reply all asks h =
      let here : is_reply input.kind ≡ true = grind (arith, common_steps, all) in
      let same : input ≡ reply = cc in
      rw (reply_asked commands replies input.kind here, asks) (sym same)

  -- the first command that was set aside, where no reply comes and commands are asked for
  pub command_next : (aside more left : List Input) (moment : ℕ) (command : Input)
      → list_any (asked commands replies) aside ≡ false
      → list_all (λ input. is_command input.kind) more ≡ true → commands ≡ true
      → slice_get more 0 ≡ Some command → command ≡ next_input commands replies
      (seen aside more left moment)
  command_next aside [] left moment command none all asks h = cc
  command_next aside (input ∷ more) left moment command none all asks h =
      let here : is_command input.kind ≡ true = grind (arith, common_steps, all) in
      let same : input ≡ command = cc in
      rw (
        found_past (asked commands replies) aside ((input ∷ more) ++ left) none,
        command_asked commands replies input.kind here,
        asks,
      ) (sym same)

  -- where none of those that were set aside comes, one that was not reached yet
  pub left_next : (aside more left : List Input) (moment : ℕ)
      → list_any (asked commands replies) aside ≡ false
      → list_any (asked commands replies) more ≡ false
      → next_input commands replies (seen aside more left moment)
      ≡ input_or_end (find (asked commands replies) left) moment
  left_next aside more left moment none none' = ap (λ one. input_or_end one moment)
      (found_past (asked commands replies) aside (more ++ left) none
      ∙ found_past (asked commands replies) more left none')

  -- what is left where a reply is taken
  pub reply_taken : (aside rest more left : List Input) (moment : ℕ) (reply : Input)
      → list_all (λ input. is_reply input.kind) aside ≡ true → replies ≡ true → aside ≡ reply ∷ rest
      → seen rest more left moment ≡ after_next commands replies (seen aside more left moment)
  reply_taken [] rest more left moment reply all asks h = cc
  reply_taken (input ∷ aside) rest more left moment reply all asks h =
      let here : is_reply input.kind ≡ true = grind (arith, common_steps, all) in
      let yes : asked commands replies input ≡ true =
      reply_asked commands replies input.kind here ∙ asks in
      let same : rest ≡ aside = cc in
      rw (yes, same) (grind (arith, common_steps))

  -- what is left where a command is taken
  pub command_taken : (aside more rest left : List Input) (moment : ℕ) (command : Input)
      → list_any (asked commands replies) aside ≡ false
      → list_all (λ input. is_command input.kind) more ≡ true → commands ≡ true
      → more ≡ command ∷ rest → seen aside rest left moment
      ≡ after_next commands replies (seen aside more left moment)
  command_taken aside [] rest left moment command none all asks h = cc
  command_taken aside (input ∷ more) rest left moment command none all asks h =
      let here : is_command input.kind ≡ true = grind (arith, common_steps, all) in
      let yes : asked commands replies input ≡ true =
      command_asked commands replies input.kind here ∙ asks in
      let same : rest ≡ more = cc in
      rw (none, yes, same) (grind (arith, common_steps))

  -- what is left where one that was not reached yet is taken
  pub left_taken : (supply : Supply) (rest : List Input)
      → list_any (asked commands replies) supply.replies ≡ false
      → list_any (asked commands replies) supply.commands ≡ false
      → rest ≡ drop 1 (passed_over (asked commands replies) supply).left
      → record (passed_over (asked commands replies) supply) { left = rest }
      ≡ after_next commands replies supply
  left_taken supply rest none none' h = rw (none, none')
      (ap (λ left. record (passed_over (asked commands replies) supply) { left = left })
      (h ∙ drop-drop 1 (position_or_len (asked commands replies) supply.left) supply.left))

  -- one that was not reached yet is given, after those before it were set aside
  pub left_given : (supply passed : Supply) (input : Input) (rest : List Input)
      → list_any (asked commands replies) supply.replies ≡ false
      → list_any (asked commands replies) supply.commands ≡ false
      → passed ≡ passed_over (asked commands replies) supply → passed.left ≡ input ∷ rest
      → (input ≡ next_input commands replies supply)
      × (record passed { left = rest } ≡ after_next commands replies supply)
  left_given supply passed input rest none none' e h =
      let there : drop (position_or_len (asked commands replies) supply.left) supply.left ≡ input
      ∷ rest = sym (ap (λ s. s.left) e) ∙ h in
      let found : find (asked commands replies) supply.left ≡ Some input =
      found_first (asked commands replies) supply.left ∙ ap (λ l. slice_get l 0) there in (
        sym (left_next supply.replies supply.commands supply.left supply.end_moment none none'
            ∙ ap (λ one. input_or_end one supply.end_moment) found),
        rw e (left_taken supply rest none none' (sym (ap (drop 1) there))),
      )

  -- the end is given, after all that were not reached yet were set aside
  pub end_given : (supply passed : Supply) → list_any (asked commands replies) supply.replies
      ≡ false → list_any (asked commands replies) supply.commands ≡ false
      → passed ≡ passed_over (asked commands replies) supply → passed.left ≡ []
      → (input_or_end None supply.end_moment ≡ next_input commands replies supply)
      × (passed ≡ after_next commands replies supply)
  end_given supply passed none none' e h =
      let there : drop (position_or_len (asked commands replies) supply.left) supply.left ≡ [] =
      sym (ap (λ s. s.left) e) ∙ h in
      let found : find (asked commands replies) supply.left ≡ None =
      found_first (asked commands replies) supply.left ∙ ap (λ l. slice_get l 0) there in
      let empty : record (passed_over (asked commands replies) supply) { left = [] }
      ≡ after_next commands replies supply = left_taken supply [] none none'
      (sym (ap (drop 1) there)) in (
        sym (left_next supply.replies supply.commands supply.left supply.end_moment none none'
            ∙ ap (λ one. input_or_end one supply.end_moment) found),
        e ∙ ap (λ l. record (passed_over (asked commands replies) supply) { left = l }) there
            ∙ empty,
      )

  -- setting the first aside passes over the same
  pub passed_more : (aside more left : List Input) (moment : ℕ)
      → first_passes commands replies left ≡ true → passed_over (asked commands replies)
      (first_aside (seen aside more left moment)) ≡ passed_over (asked commands replies)
      (seen aside more left moment)
  passed_more aside more [] moment h = cc
  passed_more aside more (input ∷ left) moment h =
      more_passed (asked commands replies) aside more moment input left
      (grind (arith, common_steps, h))

  -- where the first is asked for, or there is none, none is passed over
  pub passed_all : (aside more left : List Input) (moment : ℕ)
      → first_passes commands replies left ≡ false
      → passed_over (asked commands replies) (seen aside more left moment)
      ≡ seen aside more left moment
  passed_all aside more [] moment h = all_passed (asked commands replies) aside more moment
  passed_all aside more (input ∷ left) moment h = none_passed (asked commands replies) aside more
      moment input left (grind (arith, common_steps, h))

-- what comes next is asked for
found_asked : (commands replies : Bool) (inputs : List Input) (moment : ℕ)
    → IsAsked commands replies (input_or_end (find (asked commands replies) inputs) moment).kind
found_asked commands replies [] moment = refl
found_asked commands replies (input ∷ inputs) moment =
    by (asked commands replies input) refl (found_asked commands replies inputs moment)
  where
    by : (b : Bool) → asked commands replies input ≡ b
        → IsAsked commands replies (input_or_end (find (asked commands replies) inputs) moment).kind
        → IsAsked commands replies (input_or_end (find (asked commands replies) (input ∷ inputs))
        moment).kind
    by true e rest = rw e e
    by false e rest = rw e rest

pub next_asked : (commands replies : Bool) (supply : Supply)
    → IsAsked commands replies (next_input commands replies supply).kind
next_asked commands replies supply = found_asked commands replies (in_turn supply) supply.end_moment
