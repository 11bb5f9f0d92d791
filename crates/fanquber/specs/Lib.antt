-- What the contracts of both tools cite.
pub use Rattle.abnfrun.specs.AbnfAnswers
pub use Rattle.abnfrun.specs.AbnfReply
pub use Rattle.cli.specs.Command
pub use Rattle.cli.specs.Jobs
pub use Rattle.cli.specs.Parsing
pub use Rattle.pegrun.specs.Answers
pub use Rattle.pegrun.specs.PegReply
pub use Rattle.toolrun.specs.Delivery
pub use Rattle.toolrun.specs.Input
pub use Rattle.toolrun.specs.Reply
pub use Rattle.toolrun.specs.Right
pub use Rattle.toolrun.specs.Status
pub use Rattle.toolrun.specs.Stream
