use Rattle.std.proofs.Common.{◌≡◌, sym, ap, ◌∙◌, rules}
use Rattle.std.specs.Option.{option_map}
use Rattle.racks.specs.Racks.{parts_of}
use Rattle.rack_shelves.proofs.Changes.{take_done, take_none}
use Rattle.rack_shelves.proofs.shelving.RackShelfShelf.take.Goals as goal

pub invariant_of-self : goal.invariant_of-self
invariant_of-self c =
    let s = c.args.self.now in
    record { apart = (take_done (parts_of s.rack) c.args.at s.apart c.in_use.ensures (sym c.in_ok-place.was ∙ c.position_of.ensures) c.remove.ensures.after).apart }

pub returns : goal.returns
returns c =
    let s = c.args.self.now in
    let done = take_done (parts_of s.rack) c.args.at s.apart c.in_use.ensures (sym c.in_ok-place.was ∙ c.position_of.ensures) c.remove.ensures.after in
    let held : c.map.result ≡ option_map (λ x. x.held) c.remove.result = search rules in
    record { value = held ∙ (ap (option_map (λ x. x.held)) c.remove.ensures.value ∙ done.value); after = done.after; cells = done.cells; same = done.same }

pub returns-in_err-place : goal.returns-in_err-place
returns-in_err-place c =
    let s = c.args.self.now in
    let done = take_none (parts_of s.rack) c.args.at s.apart c.in_use.ensures (sym c.in_err-place.was ∙ c.position_of.ensures) in
    record { value = c.from_residual.ensures ∙ done.value; after = done.after; cells = done.cells; same = done.same }
