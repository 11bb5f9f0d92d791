use Rattle.pegread.proofs.AreMarkedLemmas.{name-token, literal-token, class-token, action-token, braced-token}
use Rattle.pegread.proofs.token_lists.are_marked.Goals as goal

pub returns-clause-name : goal.returns-clause-name
returns-clause-name c = name-token

pub returns-clause-literal : goal.returns-clause-literal
returns-clause-literal c = literal-token

pub returns-clause-class : goal.returns-clause-class
returns-clause-class c = class-token

pub returns-clause-matched : goal.returns-clause-matched
returns-clause-matched c = action-token

pub returns-clause-action : goal.returns-clause-action
returns-clause-action c = braced-token
