-- A turn of all blocks, dealt out to workers and taken back.
use Rattle.std.proofs.Common.{◌≡◌, ◌↔◌, ℕ, ◌+◌, ◌*◌, ◌/◌, ◌%◌, ◌<◌, ◌≤◌, ⊎_elim, List, Option, length}
use Rattle.std.proofs.Common.{get_or, Vec, sym, subst, ◌∙◌, arith}
use Rattle.std.specs.declared.alloc.Global.{Global}
use Rattle.std.proofs.lemmas.Bool.{cases_lt}
use Rattle.std.proofs.lemmas.Nat.{div-add-mod'}
use Rattle.std.proofs.Math.Nat.{mod-lt}
use Rattle.cm_model.specs.declared.act.Act.{Act}
use Rattle.cm_subcube.specs.declared.round.Round.{Round}
use Rattle.cm_subcube.specs.Blocks.{BlockView}
use Rattle.cm_workers.specs.declared.post.Post.{Post}
use Rattle.cm_gates.specs.Dealing.{hand, AreDealt, AreShares}
use Rattle.cm_workers.specs.Each.{AreEach}
use Rattle.cm_workers.specs.Turns.{IsReadyForTurn, CanAllGo, HasGone}
use Rattle.cm_workers.specs.Shifts.{CanHandsGo, HandsHaveGone}

-- numbers that have the same numbers below them
same_below : (a b : ℕ) → ((q : ℕ) → (q < a) ↔ (q < b)) → a ≡ b
same_below a b same = ⊎_elim
    (λ (l : a < b). absurd (let no = (same a).1 l in omega (arith, no)))
    (λ (l : b ≤ a). ⊎_elim (λ (k : b < a). absurd (let no = (same b).0 k in omega (arith, no)))
    (λ (k : a ≤ b). omega (arith, l, k)) (cases_lt b a))
    (cases_lt a b)

-- hands of as many things have as many each
same_shares : {A B : Type 0} (count many : ℕ) (as_ : List (Vec A Global)) (bs : List (Vec B Global))
    → AreShares count many as_ → AreShares count many bs
    → (w : ℕ) (e : Vec A Global) (f : Vec B Global) → w < count → length (hand bs f w) ≡ length (hand as_ e w)
same_shares count many as_ bs first second w e f below =
    same_below (length (hand bs f w)) (length (hand as_ e w)) (λ q. (
      (λ (l : q < length (hand bs f w)). (first w q e below).1 ((second w q f below).0 l)),
      (λ (l : q < length (hand as_ e w)). (second w q f below).1 ((first w q e below).0 l)),
    ))

module _ (acts : List Act) (before next : Option Round) (count : ℕ) (some : 0 < count) (blocks : List BlockView)
    (posts : List Post) (hb : List (Vec BlockView Global)) (hp : List (Vec Post Global))
    (same : length posts ≡ length blocks) (db : AreDealt count blocks hb) (dp : AreDealt count posts hp) where
  post_shares : AreShares count (length blocks) hp
  post_shares = subst (λ (n : ℕ). AreShares count n hp) same dp.shares

  pub hands_ready : CanAllGo acts before next blocks posts → CanHandsGo acts before next hb hp
  hands_ready ready = record {
    len = dp.len ∙ sym db.len;
    each = λ w e f below.
        let l : w < count = omega (arith, below, db.len) in record {
          len = same_shares count (length blocks) hb hp db.shares post_shares w e f l;
          each = λ q b p k.
              let at : q * count + w < length blocks = (db.shares w q e l).0 k in
              subst (λ (x : BlockView). IsReadyForTurn acts before next x (get_or (hand hp f w) q p))
              (sym (db.each w q e b l at))
              (subst (λ (x : Post). IsReadyForTurn acts before next (get_or blocks (q * count + w) b) x)
              (sym (dp.each w q f p l (omega (arith, at, same))))
              (ready.each (q * count + w) b p at));
        };
  }

  module _ (now : List (Vec BlockView Global)) (sent : List (Vec Post Global))
      (gone : HandsHaveGone acts before next hb hp now sent) where
    pub block_count : length now ≡ count
    block_count = gone.first_len ∙ db.len

    pub post_count : length sent ≡ count
    post_count = gone.second_len ∙ dp.len

    pub now_shares : Vec Post Global → AreShares count (length blocks) now
    now_shares f w q e below =
        let l : w < length hb = omega (arith, below, db.len) in
        let long : length (hand now e w) ≡ length (hand hb e w) = (gone.each w e f l).first_len in (
          (λ (k : q < length (hand now e w)). (db.shares w q e below).0 (omega (arith, k, long))),
          (λ (k : q * count + w < length blocks). let m = (db.shares w q e below).1 k in omega (arith, m, long)),
        )

    pub sent_shares : Vec BlockView Global → AreShares count (length blocks) sent
    sent_shares e w q f below =
        let l : w < length hb = omega (arith, below, db.len) in
        let long : length (hand sent f w) ≡ length (hand hp f w) = (gone.each w e f l).second_len in (
          (λ (k : q < length (hand sent f w)). (post_shares w q f below).0 (omega (arith, k, long))),
          (λ (k : q * count + w < length blocks). let m = (post_shares w q f below).1 k in omega (arith, m, long)),
        )

    pub all_had_turn : Vec BlockView Global → Vec Post Global → (bs : List BlockView) (ps : List Post)
        → length bs ≡ length blocks
        → length ps ≡ length blocks → AreDealt count bs now → AreDealt count ps sent
        → AreEach (HasGone acts before next) blocks posts bs ps
    all_had_turn e f bs ps blong plong nb np = record {
      first_len = blong;
      second_len = plong ∙ sym same;
      each = λ i b p below.
          let w = i % count in let q = i / count in
          let l : w < count = mod-lt i some in
          let at : q * count + w ≡ i = div-add-mod' i count in
          let k : q * count + w < length blocks = omega (arith, at, below) in
          subst (λ (j : ℕ). HasGone acts before next (get_or blocks j b) (get_or posts j p)
          (get_or bs j b) (get_or ps j p)) at
          (subst (λ (x : BlockView). HasGone acts before next x (get_or posts (q * count + w) p)
          (get_or bs (q * count + w) b) (get_or ps (q * count + w) p)) (db.each w q e b l k)
          (subst (λ (x : Post). HasGone acts before next (get_or (hand hb e w) q b) x (get_or bs (q * count + w) b)
          (get_or ps (q * count + w) p)) (dp.each w q f p l (omega (arith, k, same)))
          (subst (λ (x : BlockView). HasGone acts before next (get_or (hand hb e w) q b) (get_or (hand hp f w) q p) x
          (get_or ps (q * count + w) p)) (nb.each w q e b l (omega (arith, k, blong)))
          (subst (λ (x : Post). HasGone acts before next (get_or (hand hb e w) q b) (get_or (hand hp f w) q p)
          (get_or (hand now e w) q b) x) (np.each w q f p l (omega (arith, k, plong)))
          ((gone.each w e f (omega (arith, l, db.len))).each q b p ((db.shares w q e l).1 k))))));
    }
