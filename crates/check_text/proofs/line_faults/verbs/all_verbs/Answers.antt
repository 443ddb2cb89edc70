use Rattle.std.proofs.Common.{refl, arith}
use Rattle.text_words.specs.declared.spoken_calls.verbs.Verb.{Verb}
use Rattle.text_words.specs.declared.spoken_calls.verbs.Verb.TheVariants as verbs
use Rattle.text_words.specs.Verb.{IsOneOf}
use Rattle.check_text.specs.Verbs.{all_verbs}
use Rattle.check_text.proofs.line_faults.verbs.all_verbs.Goals as goal

each : (v : Verb) → IsOneOf v all_verbs
each verbs.CatCreate = (0, omega arith, refl)
each verbs.SelfSetLabel = (1, omega arith, refl)
each verbs.SelfSetClearance = (2, omega arith, refl)
each verbs.SelfSetAs = (3, omega arith, refl)
each verbs.ContainerCreate = (4, omega arith, refl)
each verbs.SegmentCreate = (5, omega arith, refl)
each verbs.SegmentCopy = (6, omega arith, refl)
each verbs.AsCreate = (7, omega arith, refl)
each verbs.ThreadCreate = (8, omega arith, refl)
each verbs.GateCreate = (9, omega arith, refl)
each verbs.Link = (10, omega arith, refl)
each verbs.Unref = (11, omega arith, refl)
each verbs.QuotaMove = (12, omega arith, refl)
each verbs.SetFixed = (13, omega arith, refl)
each verbs.SetImmutable = (14, omega arith, refl)
each verbs.MetaSet = (15, omega arith, refl)
each verbs.SegmentResize = (16, omega arith, refl)
each verbs.SegmentWrite = (17, omega arith, refl)
each verbs.AsMap = (18, omega arith, refl)
each verbs.AsUnmap = (19, omega arith, refl)
each verbs.Store = (20, omega arith, refl)
each verbs.GateEnter = (21, omega arith, refl)
each verbs.DevSend = (22, omega arith, refl)
each verbs.DevRecv = (23, omega arith, refl)
each verbs.SelfGet = (24, omega arith, refl)
each verbs.ObjLabel = (25, omega arith, refl)
each verbs.ObjQuota = (26, omega arith, refl)
each verbs.ContainerList = (27, omega arith, refl)
each verbs.ContainerParent = (28, omega arith, refl)
each verbs.SegmentLen = (29, omega arith, refl)
each verbs.SegmentRead = (30, omega arith, refl)
each verbs.MetaGet = (31, omega arith, refl)
each verbs.AsGet = (32, omega arith, refl)
each verbs.Load = (33, omega arith, refl)

pub returns-clause-each : goal.returns-clause-each
returns-clause-each c = each
