-- A turn of all workers at once.
use Rattle.std.proofs.Common.{◌≡◌, ℕ, ◌+◌, ◌<◌, ◌≤◌, ⊎_elim, List, [], ◌∷◌, ◌++◌, length, get_or, drop, Vec}
use Rattle.std.proofs.Common.{ap, sym, subst, ◌∙◌, arith}
use Rattle.std.specs.declared.alloc.Global.{Global}
use Rattle.std.proofs.lemmas.Bool.{cases_lt}
use Rattle.std.proofs.lemmas.List.{length-append, get_or_append_left, get_or_push, get_or-drop}
use Rattle.std.proofs.lemmas.List.{get_or_default, drop-drop}
use Rattle.std.specs.Prelude.{slice_get, Result, Ok, Err, IfOk}
use Rattle.cm_model.specs.declared.act.Act.{Act}
use Rattle.cm_subcube.specs.declared.round.Round.{Round}
use Rattle.cm_subcube.specs.Blocks.{BlockView}
use Rattle.cm_workers.specs.declared.post.Post.{Post}
use Rattle.cm_workers.specs.declared.shift.HasHad.{HasHad}
use Rattle.cm_gates.specs.Dealing.{hand}
use Rattle.cm_workers.specs.Each.{AreEach}
use Rattle.cm_workers.specs.Turns.{round_before, HasGone}
use Rattle.cm_workers.specs.Shifts.{IsPromised, IsPromiseKept, HandsHaveGone}

-- one more of each of three lists that go together
pub push_kept : {H A B : Type 0} (P : H → List A → List B → Type 0) (hs : List H) (bs : List (Vec A Global))
    (ps : List (Vec B Global)) (h : H) (b : Vec A Global) (p : Vec B Global) (bs_new : List (Vec A Global))
    (ps_new : List (Vec B Global))
    → length bs ≡ length hs → length ps ≡ length hs → bs_new ≡ bs ++ b ∷ [] → ps_new ≡ ps ++ p ∷ []
    → ((w : ℕ) (d : H) (e : Vec A Global) (f : Vec B Global) → w < length hs
    → P (get_or hs w d) (hand bs e w) (hand ps f w))
    → P h b.items p.items
    → (w : ℕ) (d : H) (e : Vec A Global) (f : Vec B Global) → w < length (hs ++ h ∷ [])
    → P (get_or (hs ++ h ∷ []) w d) (hand bs_new e w) (hand ps_new f w)
push_kept {H} {A} {B} P hs bs ps h b p bs_new ps_new blong plong bs_is ps_is were is w d e f below =
    subst (λ (xs : List (Vec A Global)). P (get_or (hs ++ h ∷ []) w d) (hand xs e w) (hand ps_new f w)) (sym bs_is)
    (subst (λ (ys : List (Vec B Global)). P (get_or (hs ++ h ∷ []) w d) (hand (bs ++ b ∷ []) e w) (hand ys f w))
    (sym ps_is)
    (⊎_elim
    (λ (l : w < length hs).
    subst (λ (x : H). P x (hand (bs ++ b ∷ []) e w) (hand (ps ++ p ∷ []) f w))
    (sym (get_or_append_left hs (h ∷ []) d w l))
    (subst (λ (x : Vec A Global). P (get_or hs w d) x.items (hand (ps ++ p ∷ []) f w))
    (sym (get_or_append_left bs (b ∷ []) e w (omega (arith, l, blong))))
    (subst (λ (x : Vec B Global). P (get_or hs w d) (hand bs e w) x.items)
    (sym (get_or_append_left ps (p ∷ []) f w (omega (arith, l, plong))))
    (were w d e f l))))
    (λ (l : length hs ≤ w).
    let at : length hs ≡ w = omega (arith, l, below, length-append hs (h ∷ [])) in
    subst (λ (x : H). P x (hand (bs ++ b ∷ []) e w) (hand (ps ++ p ∷ []) f w)) (sym (get_or_push hs h d w at))
    (subst (λ (x : Vec A Global). P h x.items (hand (ps ++ p ∷ []) f w)) (sym (get_or_push bs b e w (blong ∙ at)))
    (subst (λ (x : Vec B Global). P h b.items x.items) (sym (get_or_push ps p f w (plong ∙ at))) is)))
    (cases_lt w (length hs))))

-- one more at the end of one list, where those of two others were there before
pub push_promised : {H A B : Type 0} (P : List A → List B → H → Type 0) (hs hs_new : List H) (bs : List (Vec A Global))
    (ps : List (Vec B Global)) (h : H) (m : ℕ) → length hs ≡ m → hs_new ≡ hs ++ h ∷ []
    → ((w : ℕ) (d : H) (e : Vec A Global) (f : Vec B Global) → w < m → P (hand bs e w) (hand ps f w) (get_or hs w d))
    → ((e : Vec A Global) (f : Vec B Global) → P (hand bs e m) (hand ps f m) h)
    → (w : ℕ) (d : H) (e : Vec A Global) (f : Vec B Global) → w < m + 1
    → P (hand bs e w) (hand ps f w) (get_or hs_new w d)
push_promised {H} {A} {B} P hs hs_new bs ps h m long is were one w d e f below =
    subst (λ (xs : List H). P (hand bs e w) (hand ps f w) (get_or xs w d)) (sym is)
    (⊎_elim
    (λ (l : w < m). subst (λ (x : H). P (hand bs e w) (hand ps f w) x)
    (sym (get_or_append_left hs (h ∷ []) d w (omega (arith, l, long)))) (were w d e f l))
    (λ (l : m ≤ w).
    let at : m ≡ w = omega (arith, l, below) in
    subst (λ (x : H). P (hand bs e w) (hand ps f w) x) (sym (get_or_push hs h d w (long ∙ at)))
    (subst (λ (v : ℕ). P (hand bs e v) (hand ps f v) h) at (one e f)))
    (cases_lt w m))

-- ---- things taken from the front

pub first_taken : {X : Type 0} (orig now : List (Vec X Global)) (w : ℕ) (x : Vec X Global)
    → now ≡ drop w orig → w < length orig
    → x ≡ get_or now 0 x → (e : Vec X Global) → x.items ≡ hand orig e w
first_taken {X} orig now w x is below from e =
    ap (λ (v : Vec X Global). v.items)
    (from ∙ ap (λ (xs : List (Vec X Global)). get_or xs 0 x) is ∙ get_or-drop w orig 0 x
    ∙ ap (λ (i : ℕ). get_or orig i x) (let at : w + 0 ≡ w = omega arith in at) ∙ get_or_default orig w x e below)

pub rest_left : {X : Type 0} (orig now new : List X) (w : ℕ) → now ≡ drop w orig → new ≡ drop 1 now
    → new ≡ drop (w + 1) orig
rest_left orig now new w is from = from ∙ ap (λ xs. drop 1 xs) is ∙ drop-drop 1 w orig

-- ---- what was promised was kept

abbrev pub ArePromised : {H : Type 0} → (H → HasHad) → List Act → List Round → ℕ → List (Vec BlockView Global)
    → List (Vec Post Global) → List H → Type 0
ArePromised {H} promise acts rounds number blocks posts handles =
    (w : ℕ) (d : H) (e : Vec BlockView Global) (f : Vec Post Global) → w < length blocks
    → IsPromised acts rounds number (hand blocks e w) (hand posts f w) (promise (get_or handles w d))

abbrev pub AreKept : {H : Type 0} → (H → HasHad) → List (Vec BlockView Global)
    → List (Vec Post Global) → List H → Type 0
AreKept {H} promise now sent handles =
    (w : ℕ) (d : H) (e : Vec BlockView Global) (f : Vec Post Global) → w < length handles
    → IsPromiseKept (promise (get_or handles w d)) (hand now e w) (hand sent f w)

one_kept : (acts : List Act) (rounds : List Round) (number : ℕ) (promise : HasHad) (blocks now : List BlockView)
    (posts sent : List Post)
    → IsPromised acts rounds number blocks posts promise → IsPromiseKept promise now sent
    → AreEach (HasGone acts (round_before rounds number) (slice_get rounds number)) blocks posts now sent
one_kept acts rounds number promise blocks now posts sent is kept =
    subst (λ (xs : List Act). AreEach (HasGone xs (round_before rounds number) (slice_get rounds number))
    blocks posts now sent) is.acts_are
    (subst (λ (rs : List Round). AreEach (HasGone promise.acts.now (round_before rs number) (slice_get rs number))
    blocks posts now sent) is.rounds_are
    (subst (λ (t : ℕ). AreEach (HasGone promise.acts.now (round_before promise.rounds.now t)
    (slice_get promise.rounds.now t)) blocks posts now sent) is.number_is
    (subst (λ (bs : List BlockView). AreEach (HasGone promise.acts.now (round_before promise.rounds.now promise.number)
    (slice_get promise.rounds.now promise.number)) bs posts now sent) is.blocks_were
    (subst (λ (ps : List Post). AreEach (HasGone promise.acts.now (round_before promise.rounds.now promise.number)
    (slice_get promise.rounds.now promise.number)) promise.was.value.blocks.items ps now sent)
    is.posts_were kept))))

pub hands_gone : {H : Type 0} (promise : H → HasHad) (acts : List Act) (rounds : List Round)
    (number : ℕ) (blocks now : List (Vec BlockView Global)) (posts sent : List (Vec Post Global)) (handles : List H)
    → length posts ≡ length blocks → length handles ≡ length blocks
    → ArePromised promise acts rounds number blocks posts handles → length now ≡ length handles
    → length sent ≡ length handles
    → AreKept promise now sent handles
    → HandsHaveGone acts (round_before rounds number) (slice_get rounds number) blocks posts now sent
hands_gone promise acts rounds number blocks now posts sent [] same long promised first second kept = record {
  first_len = first ∙ long;
  second_len = second ∙ long ∙ sym same;
  each = λ w e f below. absurd (omega (arith, below, long));
}
hands_gone promise acts rounds number blocks now posts sent (h ∷ hs) same long promised first second kept = record {
  first_len = first ∙ long;
  second_len = second ∙ long ∙ sym same;
  each = λ w e f below. one_kept acts rounds number (promise (get_or (h ∷ hs) w h)) (hand blocks e w) (hand now e w)
      (hand posts f w) (hand sent f w)
      (promised w h e f below) (kept w h e f (omega (arith, below, long)));
}

-- ---- what is so of a result that came

pub if_came : {X E : Type 0} (result : Result X E) (A B C D : X → Type 0) → ((x : X) → A x → B x → C x → D x)
    → IfOk result A → IfOk result B → IfOk result C → IfOk result D
if_came (Ok x) A B C D f a b c = f x a b c
if_came (Err e) A B C D f a b c = tt
