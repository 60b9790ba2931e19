use Rattle.std.proofs.Common.{◌≡◌, ◌≤◌, ◌<◌, length, refl, sym, ap, slice_set, ◌∙◌, arith}
use Rattle.std.proofs.lemmas.Option.{slice_get_read}
use Rattle.call_check.proofs.Linking.{chain_with, chain_without}
use Rattle.call_check.proofs.CallNotes.{from_some}
use Rattle.call_check.proofs.chains.put_at.Goals as goal

pub returns-then-len-place : goal.returns-then-len-place
returns-then-len-place c = λ calls n call port index place chains.
    let over : length c.args.heads.now.items ≤ c.args.place = (let l = c.len.ensures in let test = c.if-len-place.true in omega (arith, l, test)) in
    let places = chains.places in
    chain_without calls n c.args.heads.now.items c.args.links.now.items c.push.new.self.items call (record { port = c.args.port; index = c.args.index; earlier = 0 }) chains c.in_ok-push.ensures.items (sym port) (sym index) refl
    (λ k l e. let same : c.args.place ≡ k = from_some c.args.place k (sym place ∙ e) in absurd (omega (arith, over, l, same, places)))

pub returns : goal.returns
returns c = λ calls n call port index place chains.
    let all : c.len-2.result ≡ length c.push-2.new.self.items = (let l = c.len-2.ensures in omega (arith, l)) in
    let within : c.args.place < length c.args.heads.now.items = (let l = c.len.ensures in let test = c.if-len-place.false in omega (arith, l, test)) in
    chain_with calls n c.args.heads.now.items (slice_set c.args.heads.now.items c.args.place c.len-2.result) c.args.links.now.items c.push-2.new.self.items call (record { port = c.args.port; index = c.args.index; earlier = c.index-earlier.result.now }) c.args.place chains c.in_ok-push-2.ensures.items (sym port) (sym index) place
    (slice_get_read c.args.heads.now.items (length c.args.heads.now.items) c.args.place c.index-earlier.result.now refl within c.index-earlier.ensures)
    (ap (λ m. slice_set c.args.heads.now.items c.args.place m) all)
