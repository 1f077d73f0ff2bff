use Rattle.std.proofs.Common.{◌≡◌, ◌+◌, ◌-◌, ◌*◌, ◌<◌, ◌≤◌, ◌≢◌, ℕ, List, take, drop, get_or, ap, ◌∙◌, arith}
use Rattle.std.proofs.lemmas.List.{get_or-take, get_or-drop}
use Rattle.cm_image_dump.proofs.Listing.{four_more, four_entries, next_entries, laid_between}
use Rattle.cm_image_dump.proofs.dense.list_eight.Goals as goal
use lib.Lanes.{chunk}

pub returns : goal.returns
returns c =
    let planes : List ℕ = c.args.planes.now in
    let listed : List ℕ = c.args.listed.now in
    let at : ℕ = c.args.at in
    let part : List ℕ = take (at + 8 - at) (drop at planes) in
    let same : (n : ℕ) → n < 8 → get_or (chunk 0 8 part) n 0 ≡ get_or planes (at + n) 0 =
    λ n h. get_or-take 8 part n 0 h ∙ get_or-take (at + 8 - at) (drop at planes) n 0 (omega (arith, h))
    ∙ get_or-drop at planes n 0 in
    let addresses : List ℕ = c.eight_from.result in
    let eight : List ℕ = chunk 0 8 part in
    let low : List ℕ = laid_between addresses eight 0 in
    let high : List ℕ = laid_between addresses eight 8 in
    let follow = c.eight_from.ensures.value in
    let first : ℕ = 4 * at + 16 in
    let last : ℕ = first + 16 in
    let end : 4 * (at + 8) ≡ last = omega arith in
    record {
      value = λ some told.
          let each : (a : ℕ) → at ≤ a → a < at + 8 → get_or planes a 0 ≢ 0 =
          λ a l h zero. let there : at + (a - at) ≡ a = omega (arith, l) in
          some (a - at) (omega (arith, l, h)) (ap (λ (k : ℕ). get_or planes k 0) there ∙ zero) in
          ap (λ (k : ℕ). take k c.put_eight-2.new.bytes) end
          ∙ four_more planes c.put_eight.new.bytes c.put_eight-2.new.bytes high (at + 4) first last (at + 8)
          (four_more planes listed c.put_eight.new.bytes low at (4 * at) first (at + 4) told c.put_eight.ensures.value
          (four_entries planes addresses eight at follow same) (omega arith)
          (λ a l h. each a l (omega (arith, h))))
          c.put_eight-2.ensures.value
          (next_entries planes addresses eight at follow same) (omega arith)
          (λ a l h. each a (omega (arith, l)) h);
    }
