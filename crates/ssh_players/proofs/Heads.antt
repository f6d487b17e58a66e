-- What a script's handler and link tell first says what they answer and give.
use Rattle.std.specs.Prelude.{◌==◌, if◌then◌else◌}
use Rattle.std.proofs.Common.{◌≡◌, ℕ, List, [], ◌∷◌, ◌++◌, map, Option, Some, None, refl, sym, ◌∙◌}
use Rattle.std.proofs.Common.{ap}
use Rattle.ssh_link.specs.declared.frame.Input.{Input}
use Rattle.ssh_link.specs.declared.link.TraceEntry.{TraceEntry}
use Rattle.ssh_link.specs.declared.link.TraceEntry.TheVariants as entry
use Rattle.ssh_auth.specs.declared.call.Call.{Call}
use Rattle.ssh_wire.specs.declared.open_failure.ChannelOpenFailure.TheVariants as reason
use Rattle.ssh_scene.specs.Opens.{own, accepting, rejecting}
use Rattle.ssh_scene.specs.declared.answers.InteractiveVerdict.{InteractiveVerdict}
use Rattle.ssh_scene.specs.declared.answers.InteractiveVerdict.TheVariants.{Plain, Unsupported}
use Rattle.ssh_scene.specs.declared.answers.InteractiveVerdict.TheVariants.{Ask}
use Rattle.ssh_scene.specs.declared.answers.OpenVerdict.{OpenVerdict}
use Rattle.ssh_scene.specs.declared.answers.OpenVerdict.TheVariants as opens
use Rattle.ssh_scene.specs.declared.answers.DataVerdict.{DataVerdict}
use Rattle.ssh_scene.specs.declared.answers.DataVerdict.TheVariants.{Silent, Echo}
use Rattle.ssh_scene.specs.declared.answers.RequestVerdict.{RequestVerdict}
use Rattle.ssh_scene.specs.declared.answers.RequestVerdict.TheVariants as requests
use Rattle.ssh_scene.specs.declared.answers.ForwardVerdict.{ForwardVerdict}
use Rattle.ssh_scene.specs.declared.answers.ForwardVerdict.TheVariants as forwards
use Rattle.ssh_scene.specs.declared.answers.Standing.{Standing}
use Rattle.ssh_scene.specs.declared.answers.Verdict.{Verdict}
use Rattle.ssh_scene.specs.declared.answers.Verdict.TheVariants.{Accept, Reject, Fail}
use Rattle.ssh_scene.specs.Queues.{Queues}
use Rattle.ssh_players.specs.Played.{
  Failure,
  verdict_number,
  told_queue,
  interactive_number,
  told_interactive,
  told_banners,
  told_banner,
  told_opens,
  told_data,
  told_requests,
  told_forwards,
  heading,
}
use Rattle.ssh_players.specs.Given.{told_input, told_moment}
use Rattle.ssh_players.specs.Given.{heading as input_heading}

verdict_in : ℕ → Verdict
verdict_in n = if n == 0 then Accept else if n == 1 then Reject else Fail

verdicts_back : (queue : List Verdict) → map verdict_in (map verdict_number queue) ≡ queue
unfolding verdict_in
verdicts_back [] = refl
verdicts_back (Accept ∷ queue) = ap (λ q. Accept ∷ q) (verdicts_back queue)
verdicts_back (Reject ∷ queue) = ap (λ q. Reject ∷ q) (verdicts_back queue)
verdicts_back (Fail ∷ queue) = ap (λ q. Fail ∷ q) (verdicts_back queue)

-- a queue is told once
queue_once : (q p : List Verdict) (xs ys : List (Call Failure)) → told_queue q ∷ xs ≡ told_queue p
    ∷ ys → (q ≡ p) × (xs ≡ ys)
queue_once q p xs ys e =
    let n : map verdict_number q ≡ map verdict_number p = cc in
    (sym (verdicts_back q) ∙ (ap (map verdict_in) n ∙ verdicts_back p), cc)

interactive_in : ℕ → InteractiveVerdict
interactive_in n = if n == 3 then Unsupported else if n == 4 then Ask else Plain (verdict_in n)

interactives_back : (queue : List InteractiveVerdict)
    → map interactive_in (map interactive_number queue) ≡ queue
unfolding interactive_in verdict_in
interactives_back [] = refl
interactives_back (Plain Accept ∷ queue) = ap (λ q. Plain Accept ∷ q) (interactives_back queue)
interactives_back (Plain Reject ∷ queue) = ap (λ q. Plain Reject ∷ q) (interactives_back queue)
interactives_back (Plain Fail ∷ queue) = ap (λ q. Plain Fail ∷ q) (interactives_back queue)
interactives_back (Unsupported ∷ queue) = ap (λ q. Unsupported ∷ q) (interactives_back queue)
interactives_back (Ask ∷ queue) = ap (λ q. Ask ∷ q) (interactives_back queue)

interactive_once : (q p : List InteractiveVerdict) (xs ys : List (Call Failure))
    → told_interactive q ∷ xs ≡ told_interactive p ∷ ys → (q ≡ p) × (xs ≡ ys)
interactive_once q p xs ys e =
    let n : map interactive_number q ≡ map interactive_number p = cc in
    (sym (interactives_back q) ∙ (ap (map interactive_in) n ∙ interactives_back p), cc)

banner_once : (b c : Option (List ℕ)) (xs ys : List (Call Failure)) → told_banner b ∷ xs
    ≡ told_banner c ∷ ys → (b ≡ c) × (xs ≡ ys)
banner_once b c xs ys e = (cc, cc)

banners_once : (m n : ℕ) (xs ys : List (Call Failure)) → told_banners m ∷ xs ≡ told_banners n ∷ ys
    → (m ≡ n) × (xs ≡ ys)
banners_once m n xs ys e = (cc, cc)

accept_or_reject : told_opens opens.Accept ≡ told_opens opens.Reject → ⊥
accept_or_reject e =
    let a : accepting (own 0) ≡ rejecting (own 0) reason.AdministrativelyProhibited = cc in
    let z : None ≡ Some reason.AdministrativelyProhibited = ap (λ answer. answer.rejection) a in cc

opens_once : (v w : OpenVerdict) → told_opens v ≡ told_opens w → v ≡ w
opens_once opens.Accept opens.Accept e = refl
opens_once opens.Accept opens.Reject e = absurd (accept_or_reject e)
opens_once opens.Accept opens.Hold e = cc
opens_once opens.Reject opens.Accept e = absurd (accept_or_reject (sym e))
opens_once opens.Reject opens.Reject e = refl
opens_once opens.Reject opens.Hold e = cc
opens_once opens.Hold opens.Accept e = cc
opens_once opens.Hold opens.Reject e = cc
opens_once opens.Hold opens.Hold e = refl

told_opens_once : (v w : OpenVerdict) (xs ys : List (Call Failure)) → told_opens v ∷ xs
    ≡ told_opens w ∷ ys → (v ≡ w) × (xs ≡ ys)
told_opens_once v w xs ys e = let a : told_opens v ≡ told_opens w = cc in (opens_once v w a, cc)

data_once : (v w : DataVerdict) → told_data v ≡ told_data w → v ≡ w
data_once Silent Silent e = refl
data_once Silent Echo e = cc
data_once Echo Silent e = cc
data_once Echo Echo e = refl

told_data_once : (v w : DataVerdict) (xs ys : List (Call Failure))
    → told_data v ∷ xs ≡ told_data w ∷ ys → (v ≡ w) × (xs ≡ ys)
told_data_once v w xs ys e = let a : told_data v ≡ told_data w = cc in (data_once v w a, cc)

requests_once : (v w : RequestVerdict) → told_requests v ≡ told_requests w → v ≡ w
requests_once requests.Success requests.Success e = refl
requests_once requests.Success requests.Failure e = cc
requests_once requests.Success requests.Silent e = cc
requests_once requests.Failure requests.Success e = cc
requests_once requests.Failure requests.Failure e = refl
requests_once requests.Failure requests.Silent e = cc
requests_once requests.Silent requests.Success e = cc
requests_once requests.Silent requests.Failure e = cc
requests_once requests.Silent requests.Silent e = refl

told_requests_once : (v w : RequestVerdict) (xs ys : List (Call Failure))
    → told_requests v ∷ xs ≡ told_requests w ∷ ys → (v ≡ w) × (xs ≡ ys)
told_requests_once v w xs ys e =
    let a : told_requests v ≡ told_requests w = cc in (requests_once v w a, cc)

forwards_once : (v w : ForwardVerdict) → told_forwards v ≡ told_forwards w → v ≡ w
forwards_once forwards.No forwards.No e = refl
forwards_once forwards.No (forwards.Yes port) e = cc
forwards_once (forwards.Yes port) forwards.No e = cc
forwards_once (forwards.Yes port) (forwards.Yes other) e = cc

told_forwards_once : (v w : ForwardVerdict) (xs ys : List (Call Failure))
    → told_forwards v ∷ xs ≡ told_forwards w ∷ ys → (v ≡ w) × (xs ≡ ys)
told_forwards_once v w xs ys e =
    let a : told_forwards v ≡ told_forwards w = cc in (forwards_once v w a, cc)

standing_same : (s t : Standing) → s.opens ≡ t.opens → s.incoming ≡ t.incoming
    → s.requests ≡ t.requests → s.forwards ≡ t.forwards → s ≡ t
standing_same s t a b c d =
    λ i. record { opens = a i; incoming = b i; requests = c i; forwards = d i }

queues_same : (q p : Queues) → q.none ≡ p.none → q.password ≡ p.password → q.offered ≡ p.offered →
    q.publickey ≡ p.publickey → q.certificate ≡ p.certificate → q.interactive ≡ p.interactive →
    q.banners ≡ p.banners → q.banner ≡ p.banner → q.standing ≡ p.standing → q ≡ p
queues_same q p a b c d e f g h j =
    λ i. record {
      none = a i;
      password = b i;
      offered = c i;
      publickey = d i;
      certificate = e i;
      interactive = f i;
      banners = g i;
      banner = h i;
      standing = j i;
    }

-- the answers are told once
pub heads : (q p : Queues) (xs ys : List (Call Failure)) → heading q ++ xs ≡ heading p ++ ys
    → (q ≡ p) × (xs ≡ ys)
heads q p xs ys e =
    let a = queue_once q.none p.none _ _ e in
    let b = queue_once q.password p.password _ _ a.1 in
    let c = queue_once q.offered p.offered _ _ b.1 in
    let d = queue_once q.publickey p.publickey _ _ c.1 in
    let f = queue_once q.certificate p.certificate _ _ d.1 in
    let g = interactive_once q.interactive p.interactive _ _ f.1 in
    let h = banners_once q.banners p.banners _ _ g.1 in
    let j = banner_once q.banner p.banner _ _ h.1 in
    let k = told_opens_once q.standing.opens p.standing.opens _ _ j.1 in
    let l = told_data_once q.standing.incoming p.standing.incoming _ _ k.1 in
    let m = told_requests_once q.standing.requests p.standing.requests _ _ l.1 in
    let n = told_forwards_once q.standing.forwards p.standing.forwards xs ys m.1 in
    let o = standing_same q.standing p.standing k.0 l.0 m.0 n.0 in
    (queues_same q p a.0 b.0 c.0 d.0 f.0 g.0 h.0 j.0 o, n.1)

-- an entry's input, and the moment until which its frame is held
input_in : Input → List TraceEntry → Input
input_in other [] = other
input_in other (entry.Took commands replies input ∷ entries) = input
input_in other (entry.Sent frame ∷ entries) = other
input_in other (entry.Noticed notice ∷ entries) = other
input_in other (entry.Answered ticket outcome ∷ entries) = other

moment_in : List TraceEntry → Option ℕ
moment_in [] = None
moment_in (entry.Took commands replies input ∷ entries) = None
moment_in (entry.Sent frame ∷ entries) = frame.hold_until
moment_in (entry.Noticed notice ∷ entries) = None
moment_in (entry.Answered ticket outcome ∷ entries) = None

told_input_once : (a b : Input) (xs ys : List TraceEntry) → told_input a ∷ xs ≡ told_input b ∷ ys
    → (a ≡ b) × (xs ≡ ys)
unfolding input_in
told_input_once a b xs ys e = (ap (input_in a) e, cc)

other_entry : (m : ℕ) (b : Input) (xs ys : List TraceEntry) → told_moment m ∷ xs ≡ told_input b ∷ ys
    → ⊥
other_entry m b xs ys e = cc

told_moment_once : (m n : ℕ) (xs ys : List TraceEntry) → told_moment m ∷ xs ≡ told_moment n ∷ ys
    → (m ≡ n) × (xs ≡ ys)
unfolding moment_in
told_moment_once m n xs ys e = let z : Some m ≡ Some n = ap moment_in e in (cc, cc)

-- the inputs are told once
pub input_heads : (ins bs : List Input) (m n : ℕ) (xs ys : List TraceEntry) → input_heading ins m
    ++ xs ≡ input_heading bs n ++ ys →
    (ins ≡ bs) × (m ≡ n) × (xs ≡ ys)
input_heads [] [] m n xs ys e = let t = told_moment_once m n xs ys e in (refl, t.0, t.1)
input_heads [] (b ∷ bs) m n xs ys e = absurd (other_entry m b xs (input_heading bs n ++ ys) e)
input_heads (a ∷ ins) [] m n xs ys e = absurd (other_entry n a ys (input_heading ins m ++ xs)
    (sym e))
input_heads (a ∷ ins) (b ∷ bs) m n xs ys e =
    let t = told_input_once a b (input_heading ins m ++ xs) (input_heading bs n ++ ys) e in
    let u = input_heads ins bs m n xs ys t.1 in
    let f = t.0 in
    let g = u.0 in
    (cc, u.1, u.2)
