use Rattle.std.proofs.Common.{◌≡◌, ℕ, List, ap, ◌∙◌, subst}
use Rattle.std.specs.Prelude.{IfSome}
use Rattle.routes.specs.Routes.{resource_of}
use Rattle.swarm_http.specs.Requests.{parts_of}
use Rattle.swarm_http.specs.Takes.{IsCaller}
use Rattle.swarm_http.proofs.request.request_line_of.Goals as goal

pub returns : goal.returns
returns c = λ h says.
    let found = c.find-found.ensures in
    record {
      resource = c.owned_resource.ensures ∙ found.resource ∙ ap resource_of says.target;
      parts = subst (λ (t : List ℕ). IfSome c.owned_parts.result (λ p. p ≡ parts_of t)) says.target (c.owned_parts.ensures c.args.head.now.target.now found.pool found.digest);
      method = says.method;
      who = subst (IsCaller c.owned_caller.result) says.caller c.owned_caller.ensures;
      after = says.after;
      closes = says.closes;
    }
